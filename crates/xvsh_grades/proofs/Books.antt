-- What a book holds.
use Rattle.std.proofs.Common.{◌≡◌, List, [], ◌∷◌, ◌++◌, map, sym, ap, subst, ◌∙◌, append_assoc, append-nil}
use Rattle.std.proofs.lemmas.List.{map-append}
use Rattle.grade_tests.specs.declared.test.Loaded.{Loaded}
use Rattle.xvsh_grades.specs.Jobs.{Holds, read_of}
use Rattle.xvsh_grades.specs.Marks.{AreMarks, AreMarksOn, of_script, ScriptRead}
use Rattle.xvsh_grades.specs.declared.batches.Book.{Book}
use Rattle.xvsh_grades.specs.declared.batches.Script.{Script}
use Rattle.xvsh_grades.specs.declared.marks.Mark.{Mark}

-- nothing waits
pub of_marks : (own others : List Loaded) (reads : List ScriptRead) (book : Book) → AreMarks own others reads book.marks.items → book.waiting.items ≡ [] → Holds own others reads book
of_marks own others reads book marks empty = record {
  judged = reads;
  split = sym (append-nil reads) ∙ ap (λ w. reads ++ map read_of w) (sym empty);
  marks = marks;
}

-- a script more waits
pub of_waiting : (own others : List Loaded) (reads : List ScriptRead) (old new : Book) (script : Script) → Holds own others reads old → new.marks.items ≡ old.marks.items
    → new.waiting.items ≡ old.waiting.items ++ script ∷ [] → Holds own others (reads ++ read_of script ∷ []) new
of_waiting own others reads old new script h same more = record {
  judged = h.judged;
  split = ap (λ r. r ++ read_of script ∷ []) h.split ∙ append_assoc h.judged (map read_of old.waiting.items) (read_of script ∷ [])
      ∙ ap (λ t. h.judged ++ t) (sym (map-append read_of old.waiting.items (script ∷ [])) ∙ ap (map read_of) (sym more));
  marks = subst (AreMarks own others h.judged) (sym same) h.marks;
}

-- the marks of a script more were found, and nothing waits
pub of_more_marks : (own others : List Loaded) (reads : List ScriptRead) (read : ScriptRead) (old more : List Mark) (book : Book) → AreMarks own others reads old → AreMarksOn others read more
    → book.marks.items ≡ old ++ more → book.waiting.items ≡ [] → Holds own others (reads ++ read ∷ []) book
of_more_marks own others reads read old more book marks each is empty =
    of_marks own others (reads ++ read ∷ []) book (subst (AreMarks own others (reads ++ read ∷ [])) (sym is) (of_script read more marks each)) empty

-- what waited was judged
pub all_marks : (own others : List Loaded) (reads : List ScriptRead) (old : Book) (new : List Mark) → Holds own others reads old
    → ((judged : List ScriptRead) → AreMarks own others judged old.marks.items → AreMarks own others (judged ++ map read_of old.waiting.items) new) → AreMarks own others reads new
all_marks own others reads old new h judge = subst (λ r. AreMarks own others r new) (sym h.split) (judge h.judged h.marks)
