-- `put_digits` meets its contract, by recursion on the number. Assumes nothing.
use mathlib.Core.Path.{◌≡◌, ap, ◌∙◌}
use mathlib.Core.List.{List, [], ◌∷◌}
use Prim.Native.Nat.{ℕ, ◌+◌, ◌/◌, ◌%◌, ◌≤◌, ◌<◌}
use native.Mathlib.Omega.{arith}
use lib.ListN.{length, set, length-append}
use Rattle.report.specs.Decimal.{digit, decimal}
use Rattle.report.specs.Lines.{Put}
use Rattle.report.proofs.Decimals.{decimal_one, decimal_more}
use Rattle.report.proofs.Writing.{put_length, put_byte, put_then}
use Rattle.report.proofs.digits.+put_digits.Goals as goal

-- a digit alone
module _ (s : List ℕ) (at n : ℕ) (h : n < 10) (f : at + length (decimal n) ≤ length s) where
  one_room : at < length s
  one_room = omega (arith, ap length (decimal_one n h))

  one_put : Put s at (decimal n) (set s at (digit n)) (at + 1)
  one_put = rw (decimal_one n h) (put_byte s at (digit n) one_room)

-- the last digit after the others
module _ (s : List ℕ) (at n : ℕ) (h : 10 ≤ n) (f : at + length (decimal n) ≤ length s) where
  split_length : length (decimal n) ≡ length (decimal (n / 10)) + 1
  split_length = ap length (decimal_more n h) ∙ length-append (decimal (n / 10)) (digit (n % 10) ∷ [])

  module _ {t : List ℕ} {last : ℕ} (p : Put s at (decimal (n / 10)) t last) where
    last_room : last < length t
    last_room = omega (arith, split_length, put_length p, p.past)

    last_put : Put s at (decimal n) (set t last (digit (n % 10))) (last + 1)
    last_put = rw (decimal_more n h) (put_then p (put_byte t last (digit (n % 10)) last_room))

pub bounds-text-at : goal.bounds-text-at
bounds-text-at t c = let a = c.args in one_room a.text.now a.at a.n c.if-n-lt10.true c.requires

pub returns-then-n-lt10 : goal.returns-then-n-lt10
returns-then-n-lt10 t c = let a = c.args in one_put a.text.now a.at a.n c.if-n-lt10.true c.requires

pub put_digits-last-requires : goal.put_digits-last-requires
put_digits-last-requires t c =
    let a = c.args in
    (omega (arith, c.decreases, c.if-n-lt10.false), omega (arith, split_length a.text.now a.at a.n c.if-n-lt10.false c.requires))

pub bounds-text-last : goal.bounds-text-last
bounds-text-last t c = let a = c.args in last_room a.text.now a.at a.n c.if-n-lt10.false c.requires c.put_digits-last.ensures

pub returns : goal.returns
returns t c = let a = c.args in last_put a.text.now a.at a.n c.if-n-lt10.false c.requires c.put_digits-last.ensures
