use Rattle.std.proofs.Common.{◌≡◌, Some, None, sym, ◌∙◌, ap, List, ℕ}
use Rattle.embed.proofs.Places.{at_place}
use Rattle.embed.proofs.packing.file_at.Goals as goal

some_same : (x y : List ℕ) → Some x ≡ Some y → x ≡ y
some_same x y same = cc

pub returns : goal.returns
returns g c =
    let file = at_place c.args.files.now c.args.place c.in-Some.name.now (Some c.in-Some-get.bytes.now) c.are_files.ensures c.requires c.in-Some.ensures c.in-Some-get.ensures in
    file.1 ∙ ap (λ b. Some (c.in-Some.name.now, b)) (sym (some_same _ _ file.2))

pub returns-in_default-get : goal.returns-in_default-get
returns-in_default-get g c =
    let file = at_place c.args.files.now c.args.place c.in-Some.name.now None c.are_files.ensures c.requires c.in-Some.ensures c.in_default-get.ensures in
    let wrong : None ≡ Some file.0 = file.2 in cc
