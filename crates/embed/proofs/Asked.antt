-- What the program reports of a script that is its standard input, as what is reported of the task.
use Rattle.std.proofs.Common.{◌≤◌, Option, Some, codes, length, subst}
use Rattle.mem_files.specs.Name.{Bytes}
use Rattle.xvsh_read.specs.declared.fault.Fault.{Fault}
use Rattle.xvsh_read.specs.declared.fault.Fault.TheVariants.{Unreadable, TooLong, LineTooLong, ByteZero, BadName, TakenName, TooManyFiles, TooLarge, Memory}
use Rattle.xvsh_read.specs.Path.{Path}
use Rattle.xvsh_read.specs.Reading.{IsReadFault, max_input as most}
use Rattle.xvsh_read.specs.Starting.{IsScriptFault, IsScriptAtFault, unread_script, bad_script}
use Rattle.xvsh_checks.specs.Check.{IsCheckFault, no_script_told, not_told}
use Rattle.embed.specs.Starting.{max_input}
use Rattle.embed.specs.Asks.{IsAskFault, of_fault}

unread : (script : Bytes) (path : Path) (fault : Fault) → IsReadFault most (Some script) path fault → IsAskFault script (of_fault fault)
unread script path (Unreadable at) is = tt
unread script path (TooLong at) is = is.1
unread script path (LineTooLong n) is = absurd is
unread script path (ByteZero n) is = absurd is
unread script path (BadName at) is = absurd is
unread script path (TakenName at) is = absurd is
unread script path TooManyFiles is = absurd is
unread script path TooLarge is = absurd is
unread script path Memory is = tt

refused : (script : Bytes) (fault : Fault) → length script ≤ max_input → IsScriptFault script fault → IsAskFault script (of_fault fault)
refused script (Unreadable at) short is = tt
refused script (TooLong at) short is = absurd is
refused script (LineTooLong n) short is = (short, is)
refused script (ByteZero n) short is = (short, is)
refused script (BadName at) short is = tt
refused script (TakenName at) short is = tt
refused script TooManyFiles short is = tt
refused script TooLarge short is = absurd is
refused script Memory short is = tt

module _ (script : Bytes) (file : Path → Option Bytes) (short : length script ≤ max_input) where
  at_script : (fault : Fault) → IsScriptAtFault (Some script) file (codes "-") fault → IsAskFault script (of_fault fault)
  at_script fault (unread_script is) = unread script (codes "-") fault is
  at_script fault (bad_script bytes own is) = refused script fault short (subst (λ b. IsScriptFault b fault) own is)

  pub asked : (fault : Fault) → IsCheckFault (Some script) file (codes "-") fault → IsAskFault script (of_fault fault)
  asked fault (no_script_told is) = at_script fault is
  asked Memory not_told = tt
