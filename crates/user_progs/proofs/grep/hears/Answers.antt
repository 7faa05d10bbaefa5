-- Nothing comes behind what is kept.
use Rattle.std.proofs.Common.{◌∙◌, List, ℕ, ap, sym, take, append-nil}
use Rattle.std.proofs.lemmas.List.{take_all}
use Rattle.user_calls.specs.Limits.{block_size}
use Rattle.user_progs.specs.Turn.{grep_goes_on, work_step, name_of}
use Rattle.user_progs.specs.View.{search_of, source_of_code}
use Rattle.user_progs.specs.declared.state.Search.{Search}
use Rattle.user_progs.proofs.grep.hears.Goals as goal

pub returns-in-Writes : goal.returns-in-Writes
returns-in-Writes g c =
    let pattern = c.args.grep.now.pattern.now in
    let kept = c.args.block.now in
    ap (λ (b : List ℕ). grep_goes_on pattern b) (ap (λ (b : List ℕ). take block_size b) (append-nil kept) ∙ take_all block_size kept c.as_slice-fits.ensures.fits)
    ∙ sym (ap (λ (s : Search). work_step (search_of s pattern kept) (name_of (source_of_code c.args.grep.now.source)) c.args.reply.now) c.in-Writes.is)
