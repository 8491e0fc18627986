-- Records as bytes, over the record length L: what is read from a list of bytes, and what is written. Assumes nothing.
use mathlib.Core.Path.{◌≡◌, refl, sym, ap, ◌∙◌, subst}
use mathlib.Core.List.{List, [], ◌∷◌, ◌++◌, append_assoc}
use Prim.Native.Nat.{ℕ, zero, suc, ◌+◌, ◌-◌, ◌*◌, ◌≤◌, ◌<◌}
use native.Mathlib.Omega.{arith}
use native.Mathlib.Nat.{mul-zero, mul-suc, mul-one, mul-add}
use lib.ListN.{length, length-append}
use lib.Seq.{drop_at, take_at}
use Rattle.records.specs.Parts.{part}
use Rattle.records.specs.Rows.{records, end_to_end}

-- ---- multiples of the record length

pub mul_more : (L c : ℕ) → L * (c + 1) ≡ L * c + L
mul_more L c = mul-add L c 1 ∙ ap (λ (x : ℕ). L * c + x) (mul-one L)

pub mul_pred : (L n : ℕ) → 0 < n → L * n ≡ L + L * (n - 1)
mul_pred L zero h = absurd (omega arith)
mul_pred L (suc n) h = let e : suc n - 1 ≡ n = omega arith in rw e (omega (arith, mul-suc L n))

pub mul_split : (L n k : ℕ) → k ≤ n → L * k + L * (n - k) ≡ L * n
mul_split L n k h = let e : k + (n - k) ≡ n = omega arith in rw (← mul-add) (ap (λ (m : ℕ). L * m) e)

pub mul_within : (L k n : ℕ) → k < n → L * k + L ≤ L * n
mul_within L k n h = omega (arith, mul_more L k, mul_split L n (k + 1) (omega arith))

-- ---- records and their bytes

-- the first record, and the others
pub records_more : (L : ℕ) (s : List ℕ) (at n : ℕ) → 0 < n → records L s at n ≡ part s at L ∷ records L s (at + L) (n - 1)
records_more L s at zero h = absurd (omega arith)
records_more L s at (suc n) h = let e : suc n - 1 ≡ n = omega arith in rw e

pub end_to_end_append : (rs ts : List (List ℕ)) → end_to_end (rs ++ ts) ≡ end_to_end rs ++ end_to_end ts
end_to_end_append [] ts = refl
end_to_end_append (r ∷ rs) ts = ap (λ (x : List ℕ). r ++ x) (end_to_end_append rs ts) ∙ sym (append_assoc r (end_to_end rs) (end_to_end ts))

pub length_records : (L : ℕ) (s : List ℕ) (at n : ℕ) → length (records L s at n) ≡ n
length_records L s at zero = refl
length_records L s at (suc n) = ap suc (length_records L s (at + L) n)

-- each record is L bytes long
pub data Each (L : ℕ) : List (List ℕ) → Type 0 where
  none : Each L []
  more : {r : List ℕ} {rs : List (List ℕ)} → length r ≡ L → Each L rs → Each L (r ∷ rs)

pub length_end_to_end : {L : ℕ} {rs : List (List ℕ)} → Each L rs → length (end_to_end rs) ≡ L * length rs
length_end_to_end {L} none = sym (mul-zero L)
length_end_to_end {L} (more {r = r} {rs = rs} l m) = length-append r (end_to_end rs) ∙ omega (arith, length_end_to_end m, mul-suc L (length rs))

-- records that were written are read again
pub records_end_to_end : {L : ℕ} {rs : List (List ℕ)} (h z : List ℕ) (at : ℕ) → length h ≡ at → Each L rs → records L (h ++ (end_to_end rs ++ z)) at (length rs) ≡ rs
records_end_to_end h z at e none = refl
records_end_to_end {L} h z at e (more {r = r} {rs = rs} l m) =
    let e₁ : part (h ++ (r ++ end_to_end rs ++ z)) at L ≡ r = rw (drop_at h (r ++ end_to_end rs ++ z) at e, append_assoc) (take_at r (end_to_end rs ++ z) L l) in
    let e₂ : h ++ (end_to_end (r ∷ rs) ++ z) ≡ (h ++ r) ++ (end_to_end rs ++ z) = simp append_assoc in
    let rest : records L (h ++ (end_to_end (r ∷ rs) ++ z)) (at + L) (length rs) ≡ rs =
    subst (λ (x : List ℕ). records L x (at + L) (length rs) ≡ rs) (sym e₂) (records_end_to_end (h ++ r) z (at + L) (length-append h r ∙ omega arith) m) in
    rw e₁ (ap (λ (x : List (List ℕ)). r ∷ x) rest)
