-- A record is the same as itself, by the test, and `==` of two records is that test. Assumes nothing.
use mathlib.Core.Path.{◌≡◌, refl, ap}
use mathlib.Core.Bool.{Bool, true, ◌&&◌, and_assoc}
use lib.Dec.{eqb}
use lib.IntN.{ℤ, pos, negsuc}
use borrow.Author.Tests.{eqb-true, eq-eqb}
use Rattle.std.specs.Bool.{Decides, one_answer}
use Rattle.std.specs.Cmp.{signed_Decides}
use Rattle.std.specs.Ordering.{int_eq}
use Rattle.integers.proofs.Tests.{and_true}
use Rattle.outline.specs.declared.Outline.{Outline}
use Rattle.outline.specs.Sameness.{same_integer, same_outline}
use Rattle.outline.proofs.Sameness.{same_outline_self}
use Rattle.sheet.specs.declared.Record.{Record}
use Rattle.sheet.specs.Merging.{same_record}

pub same_record_self : (r : Record) → same_record r r ≡ true
unfolding same_record
same_record_self r = and_true (and_true (eq-eqb r.number r.number refl) (same_outline_self r.outline)) (eq-eqb r.fee_row r.fee_row refl)

-- ---- `==`, field by field

same_integer_Decides : (x y : ℤ) → Decides (same_integer x y) (x ≡ y)
same_integer_Decides (pos a) (pos b) = (λ h. ap pos (eqb-true a b h), λ e. eq-eqb a b (cc))
same_integer_Decides (pos a) (negsuc b) = (λ h. cc, λ e. cc)
same_integer_Decides (negsuc a) (pos b) = (λ h. cc, λ e. cc)
same_integer_Decides (negsuc a) (negsuc b) = (λ h. ap negsuc (eqb-true a b h), λ e. eq-eqb a b (cc))

equal_integers : (x y : ℤ) → int_eq x y ≡ same_integer x y
equal_integers x y = one_answer _ _ (signed_Decides x y) (same_integer_Decides x y)

abbrev equal_outlines : Outline → Outline → Bool
equal_outlines o p =
    int_eq o.i p.i && (int_eq o.j p.j &&
    (eqb o.n0 p.n0 && (eqb o.n1 p.n1 && (eqb o.n2 p.n2 && (eqb o.n3 p.n3 &&
    (eqb o.n4 p.n4 && (eqb o.n5 p.n5 && (eqb o.n6 p.n6 && eqb o.n7 p.n7))))))))

abbrev equal_records : Record → Record → Bool
equal_records r t = eqb r.number t.number && (equal_outlines r.outline t.outline && eqb r.fee_row t.fee_row)

pub equal_is_same : (r t : Record) → equal_records r t ≡ same_record r t
unfolding same_record same_outline
equal_is_same r t = rw (equal_integers r.outline.i t.outline.i, equal_integers r.outline.j t.outline.j) (simp and_assoc)
