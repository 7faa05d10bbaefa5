-- What is reported of a script beside its run: what is known of its diagnostics, and why it isn't settled.
use Rattle.std.specs.Prelude.{Bool, true, false, List, [], Option, Some, None, codes}
use Rattle.mem_files.specs.Name.{Bytes}
use Rattle.every_order.specs.declared.known.Diagnostics.{Diagnostics}
use Rattle.every_order.specs.declared.known.Diagnostics.TheVariants.{Same, Differ, Untried, Full, Asleep}
use Rattle.reason_sentences.specs.Sentences.{first_text}

-- the diagnostics themselves, or why there are none
abbrev pub diagnostics_text : Diagnostics → Bytes
diagnostics_text (Same text) = text.items
diagnostics_text Differ = codes "diagnostics: not the same in every order\n"
diagnostics_text Untried = codes "diagnostics: not every order was tried\n"
diagnostics_text Full = codes "diagnostics: something is full in every order\n"
diagnostics_text Asleep = codes "diagnostics: in some order every process sleeps for ever\n"

-- where they were asked for
abbrev pub known_text : Option Diagnostics → Bytes
known_text None = []
known_text (Some known) = diagnostics_text known

-- the first of these sentences, if it is asked for and there is one
abbrev pub why_text : Bool → List Bytes → Bytes
why_text false texts = []
why_text true texts = first_text texts
