-- The scripts that come of a script by mends, and when none of these is settled (own).
use Rattle.std.specs.Prelude.{◌≡◌, ◌⊎◌, ◌<◌, ◌≤◌, ◌+◌, ◌-◌, ℕ, Bool, true, false, ◌||◌, List, [], ◌∷◌, ◌++◌, Some, None, codes, length, take}
use Rattle.std.specs.Fmt.{decimal}
use Rattle.std.specs.Global.{Global}
use Rattle.std.specs.Str.{bytes_eq}
use Rattle.mem_files.specs.Name.{Name, Bytes}
use Rattle.mem_files.specs.Files.{FileMap}
use Rattle.script_load.specs.declared.fault.LoadFault.{LoadFault}
use Rattle.script_load.specs.declared.profile.Profile.{Profile}
use Rattle.script_load.specs.Line.{ScriptLine}
use Rattle.script_load.specs.Script.{HasLoadFault, IsScript}
use Rattle.meaning_model.specs.Limits.{Outgrows}
use Rattle.meaning_model.specs.Meaning.{script_tree}
use Rattle.meaning_model.specs.Settled.{IsSettledScript}
use Rattle.plain_run.specs.Reasons.{IsReason, line_at}
use Rattle.plain_run.specs.declared.reason.Reason.{Reason}
use Rattle.script_mends.specs.Lines.{IsLineAt, ends_in}
use Rattle.script_mends.specs.Mends.{mend_of}

-- the name stands somewhere in a text
abbrev pub occurs : Name → Bytes → Bool
occurs name [] = false
occurs name (byte ∷ bytes) = bytes_eq name (take (length name) (byte ∷ bytes)) || occurs name bytes

-- the names of new files: t1, t2 and so on, to the last
abbrev pub new_name : ℕ → Name
new_name number = codes "t" ++ decimal number

abbrev pub last_name : ℕ
last_name = 999

-- no file has a name, and it stands nowhere in a script; or it is taken
abbrev pub IsNew : FileMap → Bytes → Name → Type 0
IsNew F bytes name = (occurs name bytes ≡ false) × (F name ≡ None)

abbrev pub IsTaken : FileMap → Bytes → Name → Type 0
IsTaken F bytes name = (occurs name bytes ≡ true) ⊎ (F name ≡ None → ⊥)

-- the new script is the old one with the line of a reason mended, over the file of this number
pub record IsMendOver (old : Bytes) (reason : Reason Global) (number : ℕ) (new : Bytes) : Type 0 where
  pub before : Bytes
  pub text : Bytes
  pub after : Bytes
  pub line : IsLineAt old (line_at reason - 1) before text after
  pub mended : Bytes
  pub by : mend_of (new_name number) reason text ≡ Some mended
  pub whole : new ≡ before ++ (mended ++ after)

-- there is no line of the reason, or no rule mends it
pub data HasNoRule (bytes : Bytes) (reason : Reason Global) (number : ℕ) : Type 0 where
  no_line : ends_in bytes < line_at reason - 1 → HasNoRule bytes reason number
  no_rule : {before text after : Bytes} → IsLineAt bytes (line_at reason - 1) before text after → mend_of (new_name number) reason text ≡ None → HasNoRule bytes reason number

-- what follows is of scripts under a profile, on this input and these files
module _ (profile : Profile) (input : Bytes) (F : FileMap) where
  -- the bytes are a script that is settled
  pub record IsSettledText (bytes : Bytes) : Type 0 where
    pub lines : List ScriptLine
    pub script : IsScript bytes lines
    pub settled : IsSettledScript profile lines input F

  -- a reason why the script of these bytes isn't settled
  pub record IsReasonOf (bytes : Bytes) (reason : Reason Global) : Type 0 where
    pub lines : List ScriptLine
    pub script : IsScript bytes lines
    pub is : IsReason profile lines input F reason
    pub unsettled : IsSettledScript profile lines input F → ⊥

  -- a line of the script is mended, for which there is this reason, over a new file
  pub record IsMend (old new : Bytes) : Type 0 where
    pub reason : Reason Global
    pub why : IsReasonOf old reason
    pub number : ℕ
    pub name_new : IsNew F old (new_name number)
    pub over : IsMendOver old reason number new

  -- so many mends, one after the other
  pub data AreMends : ℕ → Bytes → Bytes → Type 0 where
    no_mend : {bytes : Bytes} → AreMends 0 bytes bytes
    one_more : {count : ℕ} {old middle new : Bytes} → AreMends count old middle → IsMend middle new → AreMends (count + 1) old new

  -- no mend is known of a script that isn't settled: all names of new files are taken, or a reason has no rule
  pub data HasNoMend (bytes : Bytes) : Type 0 where
    no_name : {reason : Reason Global} → IsReasonOf bytes reason → ((number : ℕ) → 1 ≤ number → number ≤ last_name → IsTaken F bytes (new_name number)) → HasNoMend bytes
    unruled : {reason : Reason Global} (number : ℕ) → IsReasonOf bytes reason → HasNoRule bytes reason number → HasNoMend bytes

  -- the script can't be run
  pub data IsRefused (bytes : Bytes) : Type 0 where
    unread : (fault : LoadFault) → HasLoadFault bytes fault → IsRefused bytes
    outgrown : (lines : List ScriptLine) → IsScript bytes lines → Outgrows profile (script_tree lines) input F → IsRefused bytes

  -- so many mends lead to a script that is not settled and has no mend, or that is refused; or they were as many as are made
  pub data IsUnmended (most : ℕ) (bytes : Bytes) : Type 0 where
    without_mend : (count : ℕ) {last : Bytes} → AreMends count bytes last → HasNoMend last → IsUnmended most bytes
    spoilt : (count : ℕ) {last : Bytes} → AreMends (count + 1) bytes last → IsRefused last → IsUnmended most bytes
    too_many : {last : Bytes} → AreMends most bytes last → IsUnmended most bytes
