-- The promise: what the clauses of public calls cite of this crate, in the order in which to read it.
-- What is left out serves private contracts alone.

-- Sets of numbers.
pub use Rattle.grd_base.specs.Sets.{Set, nothing, with_number, without_number, union, minus, IsSubset}
-- A bit set as a set of numbers.
pub use Rattle.grd_base.specs.Bits.{has, members, IsWhole, word_of, words_of, bits_of}
-- Rising lists.
pub use Rattle.grd_base.specs.Rising.{IsRisingBy, IsRising, has_id}
-- When no two of some things are the same, and when more than some number of them have a property.
pub use Rattle.grd_base.specs.Counts.{AllDistinct, MoreThan}
