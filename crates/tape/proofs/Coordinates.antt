-- "A coordinate e becomes the greatest whole number n with n × 0.25 - 0.125 at most e, computed without loss": on exact values, for every
-- finite e. Assumes nothing.
use mathlib.Core.Path.{◌≡◌, refl, sym, ap, ◌∙◌}
use mathlib.Core.Bool.{Bool, not}
use mathlib.Core.Logic.{◌↔◌}
use Prim.Native.Nat.{ℕ, ◌+◌, ◌*◌, ◌/◌, ◌<◌}
use native.Mathlib.Nat.{mul-add, mul_assoc, mul_comm, mul-one, div-mul-le_self, lt-div-mul-add, lt_of_mul-lt-mul_left}
use native.Mathlib.Omega.{arith}
use lib.Dec.{T}
use lib.IntN.{ℤ, pos, negsuc, ◌+ℤ◌, ◌-ℤ◌, ◌*ℤ◌}
use lib.Signed.{◌≤ℤ◌}
use lib.Ieee.{Float, nan, inf, fin, up as raised, down}
use lib.Ieee.Exact.{HasValue}
use lib.Ieee.Fits.{down_pos}
use lib.Ieee.Scale.{finite}
use Rattle.integers.proofs.Parts.{up, dn, sum_parts, diff_parts, le_parts, parts_le, parts_eq}
use Rattle.integers.proofs.Linear.{#, ◌⊕◌, lit, ◌≼◌, ◌≈◌}
use Rattle.integers.proofs.Multiples.{mul}
use Rattle.integers.proofs.Tests.{lt_parts, parts_lt, not_le_lt}
use Rattle.octagon.specs.Outcome.{accepted, refused}
use Rattle.octagon.proofs.Outcomes.{accepted_same, refused_same, accepted_not_refused}
use Rattle.tape.specs.Snapping.{not_finite, with_sign, floored, snapped, Spans, InCell}
use Rattle.tape.proofs.Scales.{twice_less, twice_more, scaled_le, at_most_either, sign_scaled}

-- ---- a fraction rounded down

floor_low : (z : ℤ) (k : ℕ) → 0 < k → mul k (# (floored z k)) ≼ # z
unfolding up dn
floor_low (pos a) k l = omega (arith, div-mul-le_self a k, mul_comm (a / k) k)
floor_low (negsuc a) k l = omega (arith, lt-div-mul-add {a = a} {b = k} l, mul_comm (a / k) k, mul-add k (a / k) 1, mul-one k)

floor_high : (z : ℤ) (k : ℕ) → 0 < k → # z ⊕ lit 1 ≼ mul k (# (floored z k)) ⊕ lit k
unfolding up dn
floor_high (pos a) k l = omega (arith, lt-div-mul-add {a = a} {b = k} l, mul_comm (a / k) k)
floor_high (negsuc a) k l = omega (arith, div-mul-le_self a k, mul_comm (a / k) k, mul-add k (a / k) 1, mul-one k)

-- at most z, and z less than one more: the first is at most the second
floor_most : (k : ℕ) (n m z : ℤ) → mul k (# n) ≼ # z → # z ⊕ lit 1 ≼ mul k (# m) ⊕ lit k → # n ≼ # m
floor_most k n m z h j =
    let less : k * (up n + dn m) < k * (up m + dn n + 1) =
    omega (arith, mul-add k (up n) (dn m), mul-add k (up m) (dn n), mul-add k (up m + dn n) 1, mul-one k) in
    let below = lt_of_mul-lt-mul_left k less in
    omega arith

floor_is : (k : ℕ) (n z : ℤ) → 0 < k → mul k (# n) ≼ # z → # z ⊕ lit 1 ≼ mul k (# n) ⊕ lit k → floored z k ≡ n
floor_is k n z l h j =
    let a = floor_most k (floored z k) n z (floor_low z k l) j in
    let b = floor_most k n (floored z k) z h (floor_high z k l) in
    parts_eq (floored z k) n (omega arith)

-- ---- a coordinate by its own fraction

sum_is : (w : ℤ) (d : ℕ) → # (w +ℤ pos d) ≈ # w ⊕ lit d
unfolding up dn
sum_is w d = sum_parts w (pos d)

-- w / d eighths are at or above the lower edge of the cell k, and below the upper edge of the cell n
pub at_most_cell : (k n w : ℤ) (d : ℕ) → # (((k +ℤ k) -ℤ pos 1) *ℤ pos d) ≼ # w → # w ⊕ lit 1 ≼ # (((n +ℤ n) +ℤ pos 1) *ℤ pos d) → # k ≼ # n
at_most_cell k n w d low high =
    let less = twice_less k d in
    let more = twice_more n d in
    let z = sum_is w d in
    floor_most (2 * d) k n (w +ℤ pos d) (omega (arith, mul_assoc 2 d (up k), mul_assoc 2 d (dn k))) (omega (arith, mul_assoc 2 d (up n), mul_assoc 2 d (dn n)))

own_floor : (n : ℤ) (s : Bool) (a d : ℕ) → 0 < d → Spans n s a d → floored (with_sign s (8 * a) +ℤ pos d) (2 * d) ≡ n
own_floor n s a d l h =
    let w = with_sign s (8 * a) in
    let low = le_parts h.reached in
    let high = lt_parts h.passed in
    let less = twice_less n d in
    let more = twice_more n d in
    let z = sum_is w d in
    let u = mul_assoc 2 d (up n) in
    let v = mul_assoc 2 d (dn n) in
    floor_is (2 * d) n (w +ℤ pos d) (omega arith) (omega arith) (omega arith)

own_spans : (s : Bool) (a d : ℕ) → 0 < d → Spans (floored (with_sign s (8 * a) +ℤ pos d) (2 * d)) s a d
own_spans s a d l =
    let w = with_sign s (8 * a) in
    let n = floored (w +ℤ pos d) (2 * d) in
    let low = floor_low (w +ℤ pos d) (2 * d) (omega arith) in
    let high = floor_high (w +ℤ pos d) (2 * d) (omega arith) in
    let less = twice_less n d in
    let more = twice_more n d in
    let z = sum_is w d in
    let u = mul_assoc 2 d (up n) in
    let v = mul_assoc 2 d (dn n) in
    record { reached = parts_le (((n +ℤ n) -ℤ pos 1) *ℤ pos d) w (omega arith); passed = parts_lt w (((n +ℤ n) +ℤ pos 1) *ℤ pos d) (omega arith) }

-- ---- by any fraction that is its value

-- one value as two fractions, a / d and b / e, each with its sign and taken 8 times
one_value : (s : Bool) (a d b e : ℕ) → a * e ≡ b * d → with_sign s (8 * b) *ℤ pos d ≡ with_sign s (8 * a) *ℤ pos e
one_value s a d b e q =
    sign_scaled s (8 * b) d
    ∙ ap (with_sign s) (mul_assoc 8 b d ∙ ap (λ (k : ℕ). 8 * k) (sym q) ∙ sym (mul_assoc 8 a e))
    ∙ sym (sign_scaled s (8 * a) e)

-- what is in the cell by the first is so by the second
rescaled : (n : ℤ) (s : Bool) (a d b e : ℕ) → 0 < d → 0 < e → a * e ≡ b * d → Spans n s a d → Spans n s b e
rescaled n s a d b e l k q h =
    let u = with_sign s (8 * a) in
    let v = with_sign s (8 * b) in
    let low = (n +ℤ n) -ℤ pos 1 in
    let high = (n +ℤ n) +ℤ pos 1 in
    record {
      reached = parts_le (low *ℤ pos e) v (at_most_either low u v d e l (one_value s a d b e q) (le_parts h.reached));
      passed = not_le_lt v (high *ℤ pos e) (λ (r : # (high *ℤ pos e) ≼ # v).
          let back = at_most_either high v u e d k (one_value s b e a d (sym q)) r in
          let p = lt_parts h.passed in
          omega arith);
    }

-- "the greatest whole number n with n × 0.25 - 0.125 at most e": e = ±a / d, written in any way, has the cell n exactly where
-- n / 4 - 1 / 8 ≤ e < (n + 1) / 4 - 1 / 8. So every finite e has one, and only one.
pub snap_exactly : (e : Float) (s : Bool) (a d : ℕ) → 0 < d → HasValue e s a d → (n : ℤ) → (snapped e ≡ accepted n) ↔ Spans n s a d
unfolding snapped
snap_exactly nan s a d l v n = absurd v
snap_exactly (inf t) s a d l v n = absurd v
snap_exactly (fin t m x) s a d l v n = (to, from)
  where
    to : accepted (floored (with_sign t (8 * (m * raised x)) +ℤ pos (down x)) (2 * down x)) ≡ accepted n → Spans n s a d
    to q = rw (← v.0) (rescaled n t (m * raised x) (down x) a d (down_pos x) l v.1 (rw (← accepted_same q) (own_spans t (m * raised x) (down x) (down_pos x))))

    from : Spans n s a d → accepted (floored (with_sign t (8 * (m * raised x)) +ℤ pos (down x)) (2 * down x)) ≡ accepted n
    from h = ap accepted (own_floor n t (m * raised x) (down x) (down_pos x) (rescaled n t a d (m * raised x) (down x) l (down_pos x) (sym v.1) (rw v.0 h)))

-- in the request's own words: the k with k / 4 - 1 / 8 at most e are those up to n
pub snap_greatest : (e : Float) (s : Bool) (a d : ℕ) → 0 < d → HasValue e s a d → (n : ℤ) → snapped e ≡ accepted n → (k : ℤ) →
    ((((k +ℤ k) -ℤ pos 1) *ℤ pos d) ≤ℤ with_sign s (8 * a)) ↔ (k ≤ℤ n)
snap_greatest e s a d l v n q k = (to, from)
  where
    w : ℤ
    w = with_sign s (8 * a)

    spans : Spans n s a d
    spans = (snap_exactly e s a d l v n).0 q

    to : (((k +ℤ k) -ℤ pos 1) *ℤ pos d) ≤ℤ w → k ≤ℤ n
    to h = parts_le k n (at_most_cell k n w d (le_parts h) (lt_parts spans.passed))

    from : k ≤ℤ n → (((k +ℤ k) -ℤ pos 1) *ℤ pos d) ≤ℤ w
    from h =
        let reached = le_parts spans.reached in
        let grows =
        scaled_le d ((k +ℤ k) -ℤ pos 1) ((n +ℤ n) -ℤ pos 1)
        (omega (arith, le_parts h, sum_parts k k, sum_parts n n, diff_parts (k +ℤ k) (pos 1), diff_parts (n +ℤ n) (pos 1))) in
        parts_le (((k +ℤ k) -ℤ pos 1) *ℤ pos d) w (omega arith)

-- so a coordinate is given the cell that it lies in, and it lies in one cell at most
pub in_cell_exactly : (e : Float) (n : ℤ) → (snapped e ≡ accepted n) ↔ InCell e n
unfolding snapped
in_cell_exactly e n = (to e, λ h. (snap_exactly e h.sign h.size h.part h.some_part h.value n).1 h.spans)
  where
    to : (e : Float) → snapped e ≡ accepted n → InCell e n
    to nan q = absurd (accepted_not_refused (sym q))
    to (inf s) q = absurd (accepted_not_refused (sym q))
    to (fin s m x) q = record {
      sign = s;
      size = m * raised x;
      part = down x;
      some_part = down_pos x;
      value = (refl, refl);
      spans = (snap_exactly (fin s m x) s (m * raised x) (down x) (down_pos x) (refl, refl) n).0 q;
    }

pub in_cell_only : (e : Float) (n m : ℤ) → InCell e n → InCell e m → n ≡ m
in_cell_only e n m h k = accepted_same (sym ((in_cell_exactly e n).1 h) ∙ (in_cell_exactly e m).1 k)

-- and every finite one lies in some cell
pub in_cell_somewhere : (e : Float) → T (finite e) → (n : ℤ) × InCell e n
unfolding snapped
in_cell_somewhere nan h = absurd h
in_cell_somewhere (inf s) h = absurd h
in_cell_somewhere (fin s m x) h = (_, (in_cell_exactly (fin s m x) _).0 refl)

-- "14 when a coordinate is not finite": exactly then, and a coordinate has no other refusal
pub snap_refused : (e : Float) (k : ℕ) → (snapped e ≡ refused k) ↔ (T (not (finite e)) × (k ≡ not_finite))
unfolding snapped
snap_refused nan k = (λ q. (tt, sym (refused_same q)), λ h. ap refused (sym h.1))
snap_refused (inf s) k = (λ q. (tt, sym (refused_same q)), λ h. ap refused (sym h.1))
snap_refused (fin s m x) k = (λ q. absurd (accepted_not_refused q), λ h. absurd h.0)
