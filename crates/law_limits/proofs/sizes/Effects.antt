-- What an effect leaves to be read, and what places have after it.
use Rattle.std.proofs.Common.{◌≡◌, ◌≢◌, ◌⊎◌, inl, inr, ℕ, ◌+◌, ◌-◌, ◌<◌, ◌≤◌, length, drop, sym, ap, ◌∙◌, arith}
use Rattle.std.proofs.lemmas.Bool.{cases_eq}
use Rattle.std.proofs.lemmas.List.{length-drop}
use Rattle.mem_files.specs.Files.{FileMap}
use Rattle.tree_model.specs.FilesAhead.{Sizes, sizes}
use Rattle.process_model.specs.Seen.{Place, View}
use Rattle.process_model.specs.Effect.{Rest, InputChanges, OutChanges, PipeChanges, PlaceChanges, further}
use Rattle.law_limits.proofs.behind.Sums.{put, put_here, put_there}
use Rattle.law_limits.proofs.sizes.Doings.{Goal, a_pipe, a_file, has}
use Rattle.law_limits.proofs.sizes.Later.{Later}

-- how much each pipe, and each file, may come to have
abbrev pub cap : Sizes → (ℕ → ℕ) → Goal → ℕ
cap L N (a_pipe i) = N i
cap L N (a_file f) = L f

-- the pipe i gives so many bytes less
abbrev pub less_by : (ℕ → ℕ) → ℕ → ℕ → ℕ → ℕ
less_by N i k = put N i (N i - k)

module _ (V W : View) (N : ℕ → ℕ) (next : W.next ≡ V.next + 1) where
  young : (k : ℕ) → k < V.next → k ≢ V.next
  young k less is = absurd (omega (arith, less, is))

  pub rest_later : Rest V W → Later V W N N
  rest_later r = record {
    pipes = λ i old. omega arith;
    input = omega (arith, ap (length {A = ℕ}) r.input);
    name = λ e old. ap (λ (x : Place). x.name) (r.places e);
    mode = λ e old. ap (λ (x : Place). x.mode) (r.places e);
    at = λ e old. omega (arith, ap (λ (x : Place). x.at) (r.places e));
    next = omega (arith, next);
  }

  pub input_later : (most : ℕ) → W.input ≡ drop most V.input → InputChanges V W → Later V W N N
  input_later most is r = record {
    pipes = λ i old. omega arith;
    input = omega (arith, ap (length {A = ℕ}) is, length-drop {A = ℕ} most V.input);
    name = λ e old. ap (λ (x : Place). x.name) (r.places e);
    mode = λ e old. ap (λ (x : Place). x.mode) (r.places e);
    at = λ e old. omega (arith, ap (λ (x : Place). x.at) (r.places e));
    next = omega (arith, next);
  }

  pub out_later : OutChanges V W → Later V W N N
  out_later r = record {
    pipes = λ i old. omega arith;
    input = omega (arith, ap (length {A = ℕ}) r.input);
    name = λ e old. ap (λ (x : Place). x.name) (r.places e);
    mode = λ e old. ap (λ (x : Place). x.mode) (r.places e);
    at = λ e old. omega (arith, ap (λ (x : Place). x.at) (r.places e));
    next = omega (arith, next);
  }

  pub pipe_later : (i : ℕ) → PipeChanges V W i → Later V W N N
  pipe_later i r = record {
    pipes = λ j old. omega arith;
    input = omega (arith, ap (length {A = ℕ}) r.input);
    name = λ e old. ap (λ (x : Place). x.name) (r.places e);
    mode = λ e old. ap (λ (x : Place). x.mode) (r.places e);
    at = λ e old. omega (arith, ap (λ (x : Place). x.at) (r.places e));
    next = omega (arith, next);
  }

  pub less_later : (i k : ℕ) → PipeChanges V W i → Later V W N (less_by N i k)
  less_later i k r = record {
    pipes = λ j old. at_pipe j (cases_eq j i);
    input = omega (arith, ap (length {A = ℕ}) r.input);
    name = λ e old. ap (λ (x : Place). x.name) (r.places e);
    mode = λ e old. ap (λ (x : Place). x.mode) (r.places e);
    at = λ e old. omega (arith, ap (λ (x : Place). x.at) (r.places e));
    next = omega (arith, next);
  }
    where
      at_pipe : (j : ℕ) → (j ≡ i) ⊎ (j ≢ i) → less_by N i k j ≤ N j
      at_pipe j (inl is) = omega (arith, ap (less_by N i k) is, put_here N i (N i - k), ap N is)
      at_pipe j (inr ne) = omega (arith, put_there N i (N i - k) j ne)

  -- a file's entry goes on, or is new
  pub further_later : (e k : ℕ) (F : FileMap) → PlaceChanges V W e (further (V.places e) k) F → Later V W N N
  further_later e k F r = record {
    pipes = λ i old. omega arith;
    input = omega (arith, ap (length {A = ℕ}) r.input);
    name = λ j old. by_name j (cases_eq j e);
    mode = λ j old. by_mode j (cases_eq j e);
    at = λ j old. by_at j (cases_eq j e);
    next = omega (arith, next);
  }
    where
      by_name : (j : ℕ) → (j ≡ e) ⊎ (j ≢ e) → (W.places j).name ≡ (V.places j).name
      by_name j (inl is) = ap (λ n. (W.places n).name) is ∙ (ap (λ (x : Place). x.name) r.place ∙ ap (λ n. (V.places n).name) (sym is))
      by_name j (inr ne) = ap (λ (x : Place). x.name) (r.places j ne)

      by_mode : (j : ℕ) → (j ≡ e) ⊎ (j ≢ e) → (W.places j).mode ≡ (V.places j).mode
      by_mode j (inl is) = ap (λ n. (W.places n).mode) is ∙ (ap (λ (x : Place). x.mode) r.place ∙ ap (λ n. (V.places n).mode) (sym is))
      by_mode j (inr ne) = ap (λ (x : Place). x.mode) (r.places j ne)

      by_at : (j : ℕ) → (j ≡ e) ⊎ (j ≢ e) → (V.places j).at ≤ (W.places j).at
      by_at j (inl is) = omega (arith, ap (λ n. (W.places n).at) is, ap (λ (x : Place). x.at) r.place, ap (λ n. (V.places n).at) is)
      by_at j (inr ne) = omega (arith, ap (λ (x : Place). x.at) (r.places j ne))

  pub new_later : (now : Place) (F : FileMap) → PlaceChanges V W V.next now F → Later V W N N
  new_later now F r = record {
    pipes = λ i old. omega arith;
    input = omega (arith, ap (length {A = ℕ}) r.input);
    name = λ j old. ap (λ (x : Place). x.name) (r.places j (young j old));
    mode = λ j old. ap (λ (x : Place). x.mode) (r.places j (young j old));
    at = λ j old. omega (arith, ap (λ (x : Place). x.at) (r.places j (young j old)));
    next = omega (arith, next);
  }

-- where neither pipes nor files change, places have what they had
pub has_same : (V W : View) → ((i : ℕ) → W.pipes i ≡ V.pipes i) → W.files ≡ V.files → (x : Goal) → has W x ≡ has V x
has_same V W pipes files (a_pipe i) = ap (length {A = ℕ}) (pipes i)
has_same V W pipes files (a_file f) = ap (λ (F : FileMap). sizes F f) files
