-- What contracts see of the open-file entries, and what each call on them does.
use Rattle.std.specs.Prelude.{ℕ, ◌+◌, ◌-◌, Bool, true, false, nat_le, if◌then◌else◌, List, Option, Some, None, IsSome, position, count_by, slice_index_or, slice_set}
use Rattle.fd_table.specs.declared.names.Object.{Object}

-- an open file: what it is open on, how many descriptors hold it, and at which byte it goes on
pub record OpenFile : Type 0 where
  pub object : Object
  pub count : ℕ
  pub offset : ℕ

-- the entries in order: None is a free one
abbrev pub Entries : Type 0
Entries = List (Option OpenFile)

-- nothing is there
abbrev pub is_free : {X : Type 0} → Option X → Bool
is_free None = true
is_free (Some x) = false

-- what the entry e has open, None also past the last entry
abbrev pub entry_at : Entries → ℕ → Option OpenFile
entry_at t e = slice_index_or t e None

-- an entry is in use
abbrev pub IsInUse : Entries → ℕ → Type 0
IsInUse t e = IsSome (entry_at t e)

-- how many descriptors hold what an entry has open, by its count: none hold a free entry
abbrev pub count_of : Option OpenFile → ℕ
count_of None = 0
count_of (Some f) = f.count

-- at which byte an entry goes on
abbrev pub offset_of : Option OpenFile → ℕ
offset_of None = 0
offset_of (Some f) = f.offset

-- an object that was just opened
abbrev pub opened : Object → OpenFile
opened object = record { object = object; count = 1; offset = 0 }

-- the lowest free entry
abbrev pub lowest_free_entry : Entries → Option ℕ
lowest_free_entry t = position is_free t

-- the entries after the object was opened at the entry place, if there is one
abbrev pub added_at : Entries → Option ℕ → Object → Entries
added_at t None object = t
added_at t (Some e) object = slice_set t e (Some (opened object))

-- the entries after the object was opened at the lowest free one; the same where none is free
abbrev pub added : Entries → Object → Entries
added t object = added_at t (lowest_free_entry t) object

-- held by n descriptors more
abbrev pub more_held : ℕ → Option OpenFile → Option OpenFile
more_held n None = None
more_held n (Some f) = Some (record { object = f.object; count = f.count + n; offset = f.offset })

-- the entries after one descriptor more holds e
abbrev pub held : Entries → ℕ → Entries
held t e = slice_set t e (more_held 1 (entry_at t e))

-- held by one descriptor less: free once no descriptor holds it
abbrev pub less_held : Option OpenFile → Option OpenFile
less_held None = None
less_held (Some f) = if nat_le f.count 1 then None else Some (record { object = f.object; count = f.count - 1; offset = f.offset })

-- the object that the last release gives back
abbrev pub last_object : Option OpenFile → Option Object
last_object None = None
last_object (Some f) = if nat_le f.count 1 then Some f.object else None

-- the entries after one descriptor less holds e
abbrev pub released : Entries → ℕ → Entries
released t e = slice_set t e (less_held (entry_at t e))

-- going on n bytes further
abbrev pub moved_on : ℕ → Option OpenFile → Option OpenFile
moved_on n None = None
moved_on n (Some f) = Some (record { object = f.object; count = f.count; offset = f.offset + n })

-- the entries after the offset of e moved on by n bytes
abbrev pub advanced : Entries → ℕ → ℕ → Entries
advanced t e n = slice_set t e (moved_on n (entry_at t e))

-- going on at the byte n
abbrev pub going_on_at : ℕ → Option OpenFile → Option OpenFile
going_on_at n None = None
going_on_at n (Some f) = Some (record { object = f.object; count = f.count; offset = n })

-- the entries after e was moved to the byte n
abbrev pub moved_to : Entries → ℕ → ℕ → Entries
moved_to t e n = slice_set t e (going_on_at n (entry_at t e))

-- how many places are free
abbrev pub free_count : {X : Type 0} → List (Option X) → ℕ
free_count places = count_by is_free places
