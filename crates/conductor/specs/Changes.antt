-- What a reading or a joining changes of the lent tables, and the reserved bytes of the records afterwards (document 01, "Where each refusal is checked"). Assumes nothing.
use Rattle.std.specs.Prelude.{◌≡◌, Bool, cond, ◌||◌, List, map, ℕ, eqb}
use Rattle.tables.specs.Limits.{Limits}
use Rattle.tables.specs.Zero.{zeroed}
use Rattle.tables.specs.declared.entries.Dependency.{Dependency}

-- the readings that write nothing, by the number of the reply: 41 and 1 leave the tables "unchanged". Every other reading writes all
abbrev pub is_unchanged : (number : ℕ) → Bool
is_unchanged number = eqb number 41 || eqb number 1

-- .. and the joinings: 40 and 16 "change no table" either, and 41 and 1 are as for a reading
abbrev pub is_join_unchanged : (number : ℕ) → Bool
is_join_unchanged number = is_unchanged number || (eqb number 40 || eqb number 16)

-- the eighth byte of each record, which is none of the five fields of document 01
abbrev pub reserved_of : List Dependency → List ℕ
reserved_of ds = map (λ (d : Dependency). d.reserved) ds

-- the reserved byte of every record after a reading: as before where it writes nothing; else zero in the records of the full size, and as before past it
abbrev pub ReservedBy : Limits → (unchanged : Bool) → (before after : List Dependency) → Type 0
ReservedBy L unchanged before after = reserved_of after ≡ cond unchanged (reserved_of before) (zeroed L.dependencies (reserved_of before))

-- .. after a reading that replied with this number, and after a joining
abbrev pub ReservedAfter : Limits → (number : ℕ) → (before after : List Dependency) → Type 0
ReservedAfter L number before after = ReservedBy L (is_unchanged number) before after

abbrev pub ReservedJoined : Limits → (number : ℕ) → (before after : List Dependency) → Type 0
ReservedJoined L number before after = ReservedBy L (is_join_unchanged number) before after
