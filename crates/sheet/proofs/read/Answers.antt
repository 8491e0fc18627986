-- `read` meets its contract. Assumes nothing.
use mathlib.Core.Path.{◌≡◌, sym, ap, ◌∙◌}
use mathlib.Core.Bool.{Bool, false}
use mathlib.Core.List.{List}
use Prim.Native.Nat.{ℕ, ◌-◌}
use native.Mathlib.Omega.{arith}
use Rattle.std.proofs.lemmas.Result.{err_from_is_err_and}
use Rattle.octagon.specs.Outcome.{Outcome, accepted}
use Rattle.sheet.specs.declared.trailer.Trailer.{Trailer}
use Rattle.sheet.specs.Trailer.{trailer_length, trailer_at}
use Rattle.sheet.specs.Sheets.{first, sheet_of}
use Rattle.sheet.specs.Checking.{is_bad_length, stated, framed}
use Rattle.sheet.proofs.Order.{plot_past}
use Rattle.sheet.proofs.Plots.{length_plots, plot_from}
use Rattle.sheet.proofs.Frames.{length_refused, framed_stated, framing}
use Rattle.sheet.proofs.ReadCases.{read_refused, read_framed}
use Rattle.sheet.proofs.read.Goals as goal

-- where the length is right, the trailer decides the frame
right : (s : List ℕ) (len : ℕ) (bad : Bool) (z : Trailer) (o : Outcome Trailer) → bad ≡ is_bad_length s len → bad ≡ false →
    z ≡ trailer_at s (len - trailer_length) → o ≡ stated len z → framed s len ≡ o
right s len bad z o p f e q = framed_stated s len (sym p ∙ f) ∙ ap (stated len) (sym e) ∙ sym q

pub returns-then-is_bad_length : goal.returns-then-is_bad_length
returns-then-is_bad_length c = sym (read_refused _ _ _ (length_refused _ _ (sym c.is_bad_length.ensures ∙ c.if-is_bad_length.true)))

pub returns-then-z-k : goal.returns-then-z-k
returns-then-z-k c =
    let a = c.args in
    let t = c.in_ok-z.z in
    let r = right a.sheet.now a.len _ _ _ c.is_bad_length.ensures c.if-is_bad_length.false c.read_trailer.ensures c.in_ok-z.ensures in
    let n = length_plots t.length a.sheet.now (first a.len t.distance) t.count in
    sym (read_framed a.sheet.now a.len a.k r ∙ plot_past (sheet_of a.sheet.now a.len t).plots a.k (omega (arith, n, c.if-z-k.true)))

pub all_rows-x-requires : goal.all_rows-x-requires
all_rows-x-requires c =
    let a = c.args in
    let r = right a.sheet.now a.len _ _ _ c.is_bad_length.ensures c.if-is_bad_length.false c.read_trailer.ensures c.in_ok-z.ensures in
    let f = framing a.sheet.now a.len c.in_ok-z.z r in
    (omega (arith, f), f.known)

pub record-requires : goal.record-requires
record-requires c =
    let a = c.args in
    let x = c.all_rows-x.ensures in
    let r = right a.sheet.now a.len _ _ _ c.is_bad_length.ensures c.if-is_bad_length.false c.read_trailer.ensures c.in_ok-z.ensures in
    let f = framing a.sheet.now a.len c.in_ok-z.z r in
    rw (x.at_is, x.count_is, x.each_is) (omega (arith, c.if-z-k.false), omega (arith, f.distance_is, f.holds))

pub returns-in_err-z : goal.returns-in_err-z
returns-in_err-z c =
    let a = c.args in
    let p = err_from_is_err_and c.from_residual.result c.from_residual.ensures.1 in rw (p.1, p.2) (sym (read_refused a.sheet.now a.len a.k (right a.sheet.now a.len _ _ _ c.is_bad_length.ensures c.if-is_bad_length.false c.read_trailer.ensures c.in_err-z.ensures)))

pub returns : goal.returns
returns c =
    let a = c.args in
    let t = c.in_ok-z.z in
    let x = c.all_rows-x.ensures in
    let r = right a.sheet.now a.len _ _ _ c.is_bad_length.ensures c.if-is_bad_length.false c.read_trailer.ensures c.in_ok-z.ensures in
    let p = plot_from t.length a.sheet.now (first a.len t.distance) t.count a.k (omega (arith, c.if-z-k.false)) in
    ap accepted (c.plot.ensures ∙ (rw (x.at_is, x.each_is) at c.record.ensures.plot)) ∙ sym (read_framed a.sheet.now a.len a.k r ∙ p)
