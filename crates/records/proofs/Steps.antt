-- One turn of each loop that reads or writes numbers in bytes, or moves or copies bytes, and numbers of two and of four bytes at once, on
-- plain values. Assumes nothing.
use mathlib.Core.Path.{◌≡◌, sym, ap, ◌∙◌}
use mathlib.Core.Bool.{true}
use mathlib.Core.List.{List, [], ◌∷◌, ◌++◌}
use Prim.Native.Nat.{ℕ, zero, suc, ◌+◌, ◌-◌, ◌*◌, ◌/◌, ◌%◌, ◌^◌, ◌≤◌, ◌<◌}
use native.Mathlib.Omega.{arith}
use native.Mathlib.Nat.{pow-suc, pow-le-pow_right}
use native.Mathlib.Numerals.{add-one}
use lib.ListN.{length, take, drop, get_or, set, length-drop, length-set}
use lib.Seq.{drop-cons, drop-drop, get_or-take, length-take-le, take-suc, take-suc-set, append_snoc}
use lib.Dec.{leb}
use borrow.Author.Tests.{leb-true}
use Rattle.integers.proofs.Tests.{both_true}
use Rattle.records.specs.Numbers.{number, bytes, total_width, narrow, packed, unpacked}
use Rattle.records.specs.Parts.{part, splice}
use Rattle.records.proofs.Numbers.{part_suc, number_suc, length_bytes}
use Rattle.records.proofs.Fields.{length_packed}
use Rattle.records.proofs.Splices.{splice_nil, length_splice, take_splice, splice_append, splice_before, splice_one, splice_cons}

-- ---- a number, from its highest byte down

-- what w - i bytes hold leaves room for one more, where w is at most 4
pub leaves_room : (w i v : ℕ) → w ≤ 4 → 0 < i → v < 256 ^ (w - i) → v < 16777216
leaves_room w i v h k l = omega (arith, pow-le-pow_right {n = 256} (omega arith) {i = w - i} {j = 3} (omega arith))

-- the number of the bytes from index i of w bytes, and that it fits them
pub record NumberFrom (s : List ℕ) (at w i v : ℕ) : Type 0 where
  pub inside : i ≤ w
  pub value : v ≡ number (part s (at + i) (w - i))
  pub below : v < 256 ^ (w - i)

pub number_from_more : (s : List ℕ) (at w i v b : ℕ) → at + w ≤ length s → 0 < i → NumberFrom s at w i v → b ≡ get_or s (at + (i - 1)) 0 → b < 256 → NumberFrom s at w (i - 1) (v * 256 + b)
number_from_more s at w zero v b h k r e l = absurd (omega arith)
number_from_more s at w (suc j) v b h k r e l =
    let q : suc j - 1 ≡ j = omega arith in
    let n : w - j ≡ suc (w - suc j) = omega (arith, r.inside) in
    let a : at + suc j ≡ at + j + 1 = omega arith in
    let m : number (part s (at + j) (suc (w - suc j))) ≡ get_or s (at + j) 0 + 256 * number (part s (at + j + 1) (w - suc j)) =
    number_suc s (at + j) (w - suc j) (omega (arith, r.inside)) in
    let f : v ≡ number (part s (at + j + 1) (w - suc j)) = r.value ∙ ap (λ (x : ℕ). number (part s x (w - suc j))) a in
    let g : b ≡ get_or s (at + j) 0 = rw q at e in
    rw q record {
      inside = omega (arith, r.inside);
      value = rw (n, m) (omega arith);
      below = rw (n, pow-suc) (omega (arith, r.below));
    }

-- ---- a number, written from its lowest byte up

pub put_more : (s : List ℕ) (at n v : ℕ) → at + n ≤ length s → 0 < n → splice (set s at (v % 256)) (at + 1) (bytes (n - 1) (v / 256)) ≡ splice s at (bytes n v)
put_more s at zero v h k = absurd (omega arith)
put_more s at (suc n) v h k =
    let e : suc n - 1 ≡ n = omega arith in
    rw e (splice_cons s at (v % 256) (bytes n (v / 256)) (omega (arith, length_bytes n (v / 256))))

-- ---- numbers of two and of four bytes, at once

pub number_two : (s : List ℕ) (at : ℕ) → at + 2 ≤ length s → number (part s at 2) ≡ get_or s at 0 + 256 * get_or s (at + 1) 0
number_two s at h = omega (arith, number_suc s at 1 (omega arith), number_suc s (at + 1) 0 (omega arith))

pub number_four : (s : List ℕ) (at : ℕ) → at + 4 ≤ length s
    → number (part s at 4) ≡ get_or s at 0 + 256 * get_or s (at + 1) 0 + 65536 * get_or s (at + 2) 0 + 16777216 * get_or s (at + 3) 0
number_four s at h =
    let e : at + 1 + 1 ≡ at + 2 = omega arith in
    let f : at + 2 + 1 ≡ at + 3 = omega arith in
    let p = rw e at (number_suc s (at + 1) 2 (omega arith)) in
    let q = rw f at (number_two s (at + 2) (omega arith)) in
    omega (arith, number_suc s at 3 (omega arith), p, q)

pub put_two : (s : List ℕ) (at v : ℕ) → at + 2 ≤ length s → set (set s at (v % 256)) (at + 1) (v / 256 % 256) ≡ splice s at (bytes 2 v)
put_two s at v h =
    let t = set s at (v % 256) in
    sym (splice_nil (set t (at + 1) (v / 256 % 256)) (at + 1 + 1))
    ∙ put_more t (at + 1) 1 (v / 256) (omega (arith, length-set s at (v % 256))) (omega arith)
    ∙ put_more s at 2 v h (omega arith)

pub put_four : (s : List ℕ) (at v : ℕ) → at + 4 ≤ length s
    → set (set (set (set s at (v % 256)) (at + 1) (v / 256 % 256)) (at + 2) (v / 65536 % 256)) (at + 3) (v / 16777216 % 256) ≡ splice s at (bytes 4 v)
put_four s at v h =
    let t = set (set s at (v % 256)) (at + 1) (v / 256 % 256) in
    let e : v / 256 / 256 ≡ v / 65536 = omega arith in
    let f : v / 65536 / 256 ≡ v / 16777216 = omega arith in
    let g : at + 2 + 1 ≡ at + 3 = omega arith in
    let l : length t ≡ length s = simp length-set in
    rw (← f, ← g)
    (put_two t (at + 2) (v / 65536) (omega arith)
    ∙ ap (λ (u : List ℕ). splice u (at + 2) (bytes 2 (v / 65536))) (put_two s at v (omega arith))
    ∙ splice_append s at (bytes 2 v) (bytes 2 (v / 65536)) (omega arith)
    ∙ rw e)

-- ---- bytes, moved up one by one from the last

-- the n bytes from index p + 1 on stand from index q + 1 on, and the byte before them is moved
pub move_more : (s : List ℕ) (p q n : ℕ) → p ≤ q → q + 1 + n ≤ length s
    → set (splice s (q + 1) (part s (p + 1) n)) q (get_or (splice s (q + 1) (part s (p + 1) n)) p 0) ≡ splice s q (part s p (n + 1))
move_more s p q n h l =
    let y = part s (p + 1) n in
    let t = splice s (q + 1) y in
    let x = get_or s p 0 in
    let m : length y ≡ n = length-take-le n (drop (p + 1) s) (rw length-drop (omega arith)) in
    let w : length t ≡ length s = length_splice s (q + 1) y (omega arith) in
    let v : get_or t p 0 ≡ x =
    sym (get_or-take (p + 1) t p 0 (omega arith)) ∙ ap (λ (z : List ℕ). get_or z p 0) (take_splice s (q + 1) y (p + 1) (omega arith) (omega arith)) ∙ get_or-take (p + 1) s p 0 (omega arith) in
    let e : part s p (n + 1) ≡ x ∷ y = rw (add-one n) (part_suc s p n (omega arith)) in
    rw (v, e) (splice_one t q x (omega arith) ∙ splice_before s q (x ∷ []) y (omega arith))

-- ---- bytes, copied from another list

-- the first i bytes of s stand in t from index at on, and the next is copied
pub copy_more : (s t : List ℕ) (at i : ℕ) → i < length s → at + i < length t → set (splice t at (take i s)) (at + i) (get_or s i 0) ≡ splice t at (take (i + 1) s)
copy_more s t at i h k =
    let x = get_or s i 0 in
    let v = splice t at (take i s) in
    let m : length (take i s) ≡ i = length-take-le i s (omega arith) in
    rw (add-one, take-suc s i 0 h)
    (splice_one v (at + i) x (omega (arith, length_splice t at (take i s) (omega arith)))
    ∙ ap (λ (n : ℕ). splice v (at + n) (x ∷ [])) (sym m)
    ∙ splice_append t at (take i s) (x ∷ []) (omega arith))

-- ---- fields, one after the other

-- the first field that is left, and the others
pub total_width_more : (ws : List ℕ) (k : ℕ) → k < length ws → total_width (drop k ws) ≡ get_or ws k 0 + total_width (drop (k + 1) ws)
total_width_more ws k h = rw (drop-cons ws k 0 h, add-one)

pub narrow_more : (ws : List ℕ) (k : ℕ) → k < length ws → narrow (drop k ws) ≡ true → (get_or ws k 0 ≤ 4) × (narrow (drop (k + 1) ws) ≡ true)
narrow_more ws k h n =
    let b = both_true (leb (get_or ws k 0) 4) (narrow (drop (suc k) ws)) (rw (drop-cons ws k 0 h) at n) in
    (leb-true (get_or ws k 0) 4 b.0, rw (add-one k) b.1)

-- the numbers of k fields stand in vs, and the rest is still to be read from index p
pub unpack_more : (s ws vs : List ℕ) (p k : ℕ) → k < length ws → k < length vs
    → take k vs ++ unpacked (drop k ws) (drop p s) ≡ take (k + 1) (set vs k (number (part s p (get_or ws k 0)))) ++ unpacked (drop (k + 1) ws) (drop (p + get_or ws k 0) s)
unpack_more s ws vs p k h l =
    rw (drop-cons ws k 0 h, add-one k, take-suc-set vs k (number (part s p (get_or ws k 0))) l, drop-drop)
    (sym (append_snoc (take k vs) (number (part s p (get_or ws k 0))) (unpacked (drop (suc k) ws) (drop (p + get_or ws k 0) s))))

-- the fields from the k-th on are still to be written from index p
pub pack_more : (s ws vs : List ℕ) (p k : ℕ) → k < length ws → length vs ≡ length ws → p + total_width (drop k ws) ≤ length s
    → splice (splice s p (bytes (get_or ws k 0) (get_or vs k 0))) (p + get_or ws k 0) (packed (drop (k + 1) ws) (drop (k + 1) vs)) ≡ splice s p (packed (drop k ws) (drop k vs))
pack_more s ws vs p k h e l =
    let w = get_or ws k 0 in
    let a = bytes w (get_or vs k 0) in
    let b = packed (drop (suc k) ws) (drop (suc k) vs) in
    let n : length a ≡ w = length_bytes w (get_or vs k 0) in
    let m : length b ≡ total_width (drop (suc k) ws) = length_packed (drop (suc k) ws) (drop (suc k) vs) (simp length-drop (omega arith)) in
    let t : total_width (drop k ws) ≡ w + total_width (drop (suc k) ws) = rw (drop-cons ws k 0 h) in
    rw (drop-cons ws k 0 h, drop-cons vs k 0 (omega arith), add-one k) (ap (λ (x : ℕ). splice (splice s p a) (p + x) b) (sym n) ∙ splice_append s p a b (omega arith))
