-- The refusal numbers of documents 01 and 02 that this crate gives, by name. Assumes nothing.
use Rattle.std.specs.Prelude.{ℕ}

-- the refusal numbers of this crate: the length; the trailer's marks; its distance; a plot number; no room; no such record; one plot number
-- for two records; a plot that leaves the old map
abbrev pub bad_length : ℕ
bad_length = 8

abbrev pub bad_trailer : ℕ
bad_trailer = 9

abbrev pub bad_distance : ℕ
bad_distance = 10

abbrev pub bad_number : ℕ
bad_number = 11

abbrev pub no_room : ℕ
no_room = 12

abbrev pub no_record : ℕ
no_record = 13

abbrev pub two_records : ℕ
two_records = 18

abbrev pub off_old_map : ℕ
off_old_map = 21
