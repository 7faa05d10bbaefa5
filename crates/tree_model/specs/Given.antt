-- What tee still makes of its files, and where they are open.
use Rattle.std.specs.Prelude.{◌≡◌, ◌≢◌, false, ℕ, ◌<◌, List, [], ◌∷◌, ◌++◌, Option, Some, None, if◌then◌else◌}
use Rattle.std.specs.Str.{bytes_eq}
use Rattle.mem_files.specs.Name.{Name, Bytes}
use Rattle.mem_files.specs.Files.{FileMap, bytes_of}
use Rattle.mem_files.specs.Overlay.{written}
use Rattle.meaning_model.specs.Value.{Value}
use Rattle.meaning_model.specs.Tee.{tee_bytes, tee_value}
use Rattle.tree_model.specs.Alone.{OwnFile, World, is_to_read, held}

-- the byte at which an open file goes on, where it has this name; else the one found for the other files
abbrev pub place_or : Option OwnFile → Name → Option ℕ → Option ℕ
place_or None name other = other
place_or (Some own) name other = if bytes_eq name own.name then Some own.at else other

-- the byte at which the file of this name goes on, at the first of these descriptors at which it is open
abbrev pub place_in : List ℕ → List OwnFile → Name → Option ℕ
place_in [] own name = None
place_in (fd ∷ fds) own name = place_or (held own fd) name (place_in fds own name)

-- what a file that held this holds once these bytes are written from a place on; without a place, the last argument
abbrev pub written_from : Option ℕ → Bytes → Option Bytes → Option Bytes → Option Bytes
written_from None bytes before other = other
written_from (Some at) bytes before other = Some (written (bytes_of before) at bytes)

-- each file that is open at these descriptors is given these bytes
abbrev pub given : List ℕ → List OwnFile → Bytes → FileMap → FileMap
given fds own bytes F name = written_from (place_in fds own name) bytes (F name) (F name)

-- those of the first descriptors are given a block and what comes later, those of the others only that
abbrev pub given_block : List ℕ → List ℕ → List OwnFile → Bytes → Bytes → FileMap → FileMap
given_block waiting done own block later F name = written_from (place_in waiting own name) (block ++ later) (F name) (given done own later F name)

-- tee still opens these names, reads its input and gives it to all files: as if these were its file words, once the
-- files that are open were given what it gives
abbrev pub left_open : List ℕ → List Name → World → Value
left_open fds names world = tee_value names world.input (given fds world.own (tee_bytes names world.input) world.files)

-- the open file can be written, goes on at this place, and is there
abbrev pub IsAt : ℕ → Option OwnFile → FileMap → Type 0
IsAt place None F = ⊥
IsAt place (Some own) F = (own.at ≡ place) × ((bytes : Bytes) × (F own.name ≡ Some bytes)) × (is_to_read own.mode ≡ false)

-- at each of these descriptors a file is open that goes on at this place
abbrev pub AreAt : ℕ → List ℕ → List OwnFile → FileMap → Type 0
AreAt place [] own F = Unit {0}
AreAt place (fd ∷ fds) own F = (2 < fd) × IsAt place (held own fd) F × AreAt place fds own F

-- none of these descriptors is this one
abbrev pub AreOthers : ℕ → List ℕ → Type 0
AreOthers fd [] = Unit {0}
AreOthers fd (other ∷ fds) = (other ≢ fd) × AreOthers fd fds

-- no descriptor comes twice
abbrev pub AreDistinct : List ℕ → Type 0
AreDistinct [] = Unit {0}
AreDistinct (fd ∷ fds) = AreOthers fd fds × AreDistinct fds
