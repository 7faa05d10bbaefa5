-- What a command sees, by the standard input and the script that the words give.
use Rattle.std.proofs.Common.{◌≡◌, Option, Some, None, refl, sym, ◌∙◌, ap}
use Rattle.std.specs.Borrow.{Bor}
use Rattle.clap.specs.declared.parser.matches.ArgMatches.{ArgMatches}
use Rattle.mem_files.specs.Name.{Bytes}
use Rattle.xvsh_read.specs.Path.{Path}
use Rattle.xvsh_read.specs.Given.{IsGiven, Sees, Sight, file_by, input_by}
use Rattle.xvsh_read.specs.declared.given.Inputs.{Inputs}
use Rattle.xvsh_ends.specs.Ends.{Asked, IsDue}
use Rattle.xvsh_ends.specs.Requests.{asked, unread_asked}
use Rattle.xvsh_ends.specs.declared.ending.Ending.{Ending}
use Rattle.xvsh_ends.specs.declared.request.Request.{Request}
use Rattle.xvsh.specs.Drive.{IsAskedBy, IsDueGiven, asks, asks_unread, due, ungiven}
use Rattle.xvsh.specs.Words.{AreInputsOf, IsRequestOf}

module _ (input : Option Bytes) (file : Path → Option Bytes) where
  -- without a word the host's standard input stays, and else it isn't looked at
  same_input : (word : Option (Bor Path)) (given after : Option Bytes) → IsGiven input file word given → (word ≡ None → after ≡ input) → input_by given after ≡ input_by given input
  same_input None given after is stays = ap (input_by given) (stays refl)
  same_input (Some path) given after is stays = ap (λ g. input_by g after) is.1 ∙ sym (ap (λ g. input_by g input) is.1)

  pub sees : (inputs : Inputs) (given after : Option Bytes) (left : Path → Option Bytes) → IsGiven input file inputs.input given → (inputs.input ≡ None → after ≡ input) → left ≡ file → Sees input file inputs (record { input = input_by given after; file = file_by inputs.text left })
  sees inputs given after left is stays same =
      record { given = given; own = is; by_input = same_input inputs.input given after is stays; by_text = ap (file_by inputs.text) same }

  -- so what is due is what the words ask for
  pub asked_by : (matches : ArgMatches) (request : Request) (inputs : Inputs) (ending : Ending) → IsRequestOf matches request → AreInputsOf matches inputs → IsDueGiven input file inputs request ending
      → (sight : Sight) × (what : Asked) × IsAskedBy input file matches sight what × IsDue sight.input sight.file what ending
  asked_by matches request inputs ending of are (due sight seen is) = (sight, asked request, asks request inputs of are seen, is)
  asked_by matches request inputs ending of are (ungiven {path = path} some is) = (record { input = input; file = file }, unread_asked request path.now, asks_unread request inputs of are some, is)
