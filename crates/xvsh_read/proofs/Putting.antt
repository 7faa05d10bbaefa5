-- Files that are put one after the other.
use Rattle.std.proofs.Common.{◌≡◌, ℕ, suc, ◌+◌, ◌<◌, List, [], ◌∷◌, ◌++◌, length, take, drop, get_or, Option, None, sym, ◌∙◌, ap, subst}
use Rattle.std.specs.Borrow.{Bor}
use Rattle.std.proofs.Math.Seq.{drop-cons}
use Rattle.std.proofs.lemmas.List.{take-append-drop, take_more}
use Rattle.mem_files.specs.Name.{Name, Bytes}
use Rattle.mem_files.specs.Files.{files}
use Rattle.mem_files.specs.Listing.{with_entry}
use Rattle.xvsh_read.specs.declared.fault.Fault.{Fault}
use Rattle.xvsh_read.specs.Path.{Path, IsNameOf, place_of}
use Rattle.xvsh_read.specs.Reading.{Agree, ArePut, one_put, IsFileFault, IsFilesFault}

module _ (file : Path → Option Bytes) (paths : List (Bor Path)) (i : ℕ) (d : Bor Path) (inside : i < length paths) (given : List (Name × Bytes)) (put : ArePut file (take i paths) given) where
  pub put_more : (later : List (Name × Bytes)) (name bytes : Bytes) → IsNameOf (get_or paths i d).now name → files given name ≡ None → Agree (file (place_of (get_or paths i d).now)) bytes → later ≡ with_entry given name bytes → ArePut file (take (i + 1) paths) later
  put_more later name bytes is fresh own gives =
      subst (λ ps. ArePut file ps later) (sym (take_more paths i d inside)) (subst (ArePut file (take i paths ++ get_or paths i d ∷ [])) (sym gives) (one_put (get_or paths i d) name bytes put is fresh own))

  pub stopped : (fault : Fault) → IsFileFault file given (get_or paths i d).now fault → IsFilesFault file paths fault
  stopped fault why = record {
    before = take i paths;
    path = get_or paths i d;
    after = drop (suc i) paths;
    given = given;
    split = sym (take-append-drop i paths) ∙ ap (λ r. take i paths ++ r) (drop-cons paths i d inside);
    put = put;
    reason = why;
  }
