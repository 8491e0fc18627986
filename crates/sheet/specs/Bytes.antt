-- A record and a trailer by the places of their bytes, in the words of documents 01 and 02 (U2, U10). proofs/RecordFields.antt and
-- proofs/TrailerFields.antt show that this is how they are read and written. Assumes nothing.
use Rattle.std.specs.Prelude.{◌≡◌, cond, List, [], ◌∷◌, eqb, ℕ, ◌+◌, ◌*◌, ◌<◌, length}
use Rattle.outline.specs.Walk.{side}
use Rattle.records.specs.Text.{ascii}
use Rattle.records.specs.Numbers.{number, signed}
use Rattle.records.specs.Parts.{part}
use Rattle.sheet.specs.declared.Record.{Record}
use Rattle.sheet.specs.declared.trailer.Trailer.{Trailer}

-- "Sheets of 24 stay readable with fee row 0"; in a record of 26 or 46 it is the number in the last two bytes: the fee row of r in the bytes b
pub data FeeField (b : List ℕ) (r : Record) : ℕ → Type 0 where
  no_field : r.fee_row ≡ 0 → FeeField b r 24
  last_field : number (part b 24 2) ≡ r.fee_row → FeeField b r 26
  county_field : number (part b 44 2) ≡ r.fee_row → FeeField b r 46

-- how many bytes i, j and each side have in a record of L bytes: "signed 16 each" and "unsigned 16 each", and U10's 32 bits
abbrev pub side_width : ℕ → ℕ
side_width L = cond (eqb L 46) 4 2

-- "plot number (unsigned 32), i and j .., n0 to n7 ..", and the fee row: the record r in the L bytes b
pub record RecordFields (L : ℕ) (b : List ℕ) (r : Record) : Type 0 where
  pub plot_number : number (part b 0 4) ≡ r.number
  pub start_i : signed (side_width L) (number (part b 4 (side_width L))) ≡ r.outline.i
  pub start_j : signed (side_width L) (number (part b (4 + side_width L) (side_width L))) ≡ r.outline.j
  pub sides : (k : ℕ) → k < 8 → number (part b (4 + side_width L * (2 + k)) (side_width L)) ≡ side r.outline k
  pub fee_row : FeeField b r L

-- "The trailer is 16 bytes: distance .. (unsigned 32), record count (unsigned 32), record length .. (unsigned 16), two zero bytes, and
-- the letters": the trailer z in the bytes b
pub record TrailerFields (b : List ℕ) (z : Trailer) : Type 0 where
  pub distance : number (part b 0 4) ≡ z.distance
  pub count : number (part b 4 4) ≡ z.count
  pub length_is : number (part b 8 2) ≡ z.length
  pub zeros : number (part b 10 2) ≡ z.zeros
  pub letters : number (part b 12 4) ≡ z.letters

-- b is the trailer of n records of L bytes each
pub record TrailerOf (L n : ℕ) (b : List ℕ) : Type 0 where
  pub bytes_long : length b ≡ 16
  pub distance : number (part b 0 4) ≡ L * n
  pub count : number (part b 4 4) ≡ n
  pub length_is : number (part b 8 2) ≡ L
  pub zeros : part b 10 2 ≡ 0 ∷ 0 ∷ []
  pub letters : part b 12 4 ≡ ascii "GRND"
