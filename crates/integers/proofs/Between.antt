-- An integer that lies between lists of bounds, the half of a difference, the choice between two orders, and that between some and none.
-- Each hands what it finds to a continuation, so that `omega` meets it as a plain variable. Assumes nothing.
use mathlib.Core.Path.{◌≡◌}
use mathlib.Core.List.{List, [], ◌∷◌}
use Prim.Native.Nat.{ℕ, ◌+◌, ◌/◌, max, ◌≤◌}
use native.Mathlib.Decide.{dec_le}
use native.Mathlib.Omega.{arith}
use lib.IntN.{ℤ}
use Rattle.integers.proofs.Linear.{Diff, #, ◌⊕◌, lit, ◌≼◌, int, int_parts}

-- each of a list is at most u
abbrev pub Under : List Diff → Diff → Type 0
Under [] u = Unit {0}
Under (l ∷ ls) u = (l ≼ u) × Under ls u

-- l is at most each of a list
abbrev pub Over : Diff → List Diff → Type 0
Over l [] = Unit {0}
Over l (u ∷ us) = (l ≼ u) × Over l us

-- each of one list is at most each of another
abbrev pub Apart : List Diff → List Diff → Type 0
Apart ls [] = Unit {0}
Apart ls (u ∷ us) = Under ls u × Apart ls us

-- the greater of two
greater : Diff → Diff → Diff
greater a b = record { p = max (a.p + b.n) (b.p + a.n); n = a.n + b.n }

under_le : (ls : List Diff) (a b : Diff) → a ≼ b → Under ls a → Under ls b
under_le [] a b h u = tt
under_le (l ∷ ls) a b h u = (omega arith, under_le ls a b h u.1)

greatest : (l : Diff) (ls : List Diff) → (z : Diff) × Under (l ∷ ls) z × ((u : Diff) → Under (l ∷ ls) u → z ≼ u)
unfolding greater
greatest l [] = (l, (omega arith, tt), λ u h. h.0)
greatest l (m ∷ ls) =
    let r = greatest (greater l m) ls in
    (r.0, (omega arith, (omega arith, r.1.1)), λ u h. r.2 u (omega arith, h.1.1))

over_each : (z : Diff) (ls us : List Diff) → ((u : Diff) → Under ls u → z ≼ u) → Apart ls us → Over z us
over_each z ls [] f h = tt
over_each z ls (u ∷ us) f h = (f u h.0, over_each z ls us f h.1)

-- an integer between lower bounds and upper bounds, where each of those is at most each of these
pub between : {R : Type 0} (l : Diff) (ls us : List Diff) → Apart (l ∷ ls) us → ((z : ℤ) → Under (l ∷ ls) (# z) → Over (# z) us → R) → R
between l ls us h f =
    let r = greatest l ls in
    let g : Diff = r.0 in
    let z : ℤ = int g in
    f z (under_le (l ∷ ls) g (# z) (omega (arith, int_parts g)) r.1)
    (over_each (# z) (l ∷ ls) us (λ u k. let q : g ≼ u = r.2 u k in omega (arith, int_parts g)) h)

-- the half of a difference, rounded up
pub half_up : {R : Type 0} (d : Diff) → ((z : ℤ) → d ≼ # z ⊕ # z → # z ⊕ # z ≼ d ⊕ lit 1 → R) → R
half_up d f =
    let g : Diff = record { p = (d.p + d.n + 1) / 2; n = d.n } in
    f (int g) (omega (arith, int_parts g)) (omega (arith, int_parts g))

-- one of two is at most the other
pub decide : {R : Type 0} (a b : Diff) → (a ≼ b → R) → (b ⊕ lit 1 ≼ a → R) → R
decide {R} a b f g = go (dec_le (a.p + b.n) (b.p + a.n))
  where
    go : Dec (a ≼ b) → R
    go (yes h) = f h
    go (no h) = g (omega arith)

-- a number is 1 or more, or 0
pub if_any : {R : Type 0} (n : ℕ) → (1 ≤ n → R) → (n ≡ 0 → R) → R
if_any {R} n f g = go (dec_le 1 n)
  where
    go : Dec (1 ≤ n) → R
    go (yes h) = f h
    go (no h) = g (omega arith)
