-- Files that are put one after the other.
use Rattle.std.proofs.Common.{◌≡◌, ℕ, suc, ◌+◌, ◌<◌, ◌≤◌, List, [], ◌∷◌, ◌++◌, length, take, drop, get_or, None, sym, ◌∙◌, ap, subst}
use Rattle.std.proofs.Math.Seq.{drop-cons}
use Rattle.std.proofs.lemmas.List.{length-take-le, take-append-drop, take_more}
use Rattle.mem_files.specs.Name.{Name, Bytes}
use Rattle.mem_files.specs.Files.{files}
use Rattle.mem_files.specs.Listing.{with_entry}
use Rattle.embed.specs.declared.task.Given.{Given}
use Rattle.embed.specs.declared.fault.StartFault.{StartFault}
use Rattle.embed.specs.Starting.{ArePut, one_put, IsFileFault, IsFilesFault}

module _ (given : List Given) (i : ℕ) (d : Given) (inside : i < length given) (list : List (Name × Bytes)) (put : ArePut (take i given) list) where
  pub put_more : (later : List (Name × Bytes)) → files list (get_or given i d).name.now ≡ None → later ≡ with_entry list (get_or given i d).name.now (get_or given i d).bytes.now → ArePut (take (i + 1) given) later
  put_more later fresh gives =
      subst (λ fs. ArePut fs later) (sym (take_more given i d inside)) (subst (ArePut (take i given ++ get_or given i d ∷ [])) (sym gives) (one_put (get_or given i d) put fresh))

  pub stopped : (fault : StartFault) → i ≤ length given → IsFileFault list (get_or given i d) (i + 1) fault → IsFilesFault given fault
  stopped fault within why = record {
    before = take i given;
    file = get_or given i d;
    after = drop (suc i) given;
    list = list;
    split = sym (take-append-drop i given) ∙ ap (λ r. take i given ++ r) (drop-cons given i d inside);
    put = put;
    reason = subst (λ n. IsFileFault list (get_or given i d) (n + 1) fault) (sym (length-take-le i given within)) why;
  }
