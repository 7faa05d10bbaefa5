-- The line of a room, a need after the other.
use Rattle.std.proofs.Common.{◌≡◌, codes, ap, ◌∙◌}
use Rattle.mem_files.specs.Name.{Bytes}
use Rattle.room_bounds.specs.declared.room.Room.{Room}
use Rattle.check_texts.specs.Rooms.{room_text, with_need}

pub made : (room : Room) (first one two three four five : Bytes) → first ≡ codes "room: " → one ≡ with_need first room.processes (codes " of 64 processes, ") → two ≡ with_need one room.entries (codes " of 100 open files, ")
    → three ≡ with_need two room.descriptors (codes " of 16 descriptors, ") → four ≡ with_need three room.files (codes " of 199 files, ") → five ≡ with_need four room.size (codes " of 274432 bytes a file\n") → five ≡ room_text room
made room first one two three four five is is_one is_two is_three is_four is_five =
    is_five
    ∙ ap (λ t. with_need t room.size (codes " of 274432 bytes a file\n")) (is_four
    ∙ ap (λ t. with_need t room.files (codes " of 199 files, ")) (is_three
    ∙ ap (λ t. with_need t room.descriptors (codes " of 16 descriptors, ")) (is_two
    ∙ ap (λ t. with_need t room.entries (codes " of 100 open files, ")) (is_one ∙ ap (λ t. with_need t room.processes (codes " of 64 processes, ")) is))))
