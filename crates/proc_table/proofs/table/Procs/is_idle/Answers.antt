-- A hart that no head runs on, no slot runs on.
use Rattle.std.proofs.Common.{false, subst, IsTrue, ◌≡◌}
use Rattle.std.specs.Prelude.{All, ◌↔◌}
use Rattle.proc_table.specs.Slots.{is_running_on, is_running_on_status}
use Rattle.proc_table.specs.Heads.{head_has}
use Rattle.proc_table.proofs.Searched.{none_with}
use Rattle.proc_table.proofs.table.Procs.is_idle.Goals as goal

pub returns : goal.returns
returns g c =
    let test = is_running_on_status c.args.hart in
    let heads = subst (λ hs. IsTrue c.is_idle.result ↔ All (λ head. head_has test head ≡ false) hs) c.self.invariant.theirs c.is_idle.ensures in
    let slots = none_with test c.self.inside.slots.items in
    subst (λ t. IsTrue c.is_idle.result ↔ All (λ slot. is_running_on c.args.hart slot ≡ false) t) c.self.view_is
    ((λ idle. slots.0 (heads.0 idle)), (λ all. heads.1 (slots.1 all)))
