-- Every listing read back: the number under each name of its first line, the record count and the sum of the last line, and the number
-- of a refusal are those of document 01. Assumes nothing.
use mathlib.Core.Path.{◌≡◌, refl, ap, ◌∙◌}
use mathlib.Core.List.{List, [], ◌∷◌, ◌++◌, map, append_assoc}
use Prim.Native.Nat.{ℕ, zero, suc, ◌+◌, ◌<◌}
use native.Mathlib.Omega.{arith}
use native.Mathlib.Numerals.{add-one, add-two}
use lib.IntN.{pos}
use lib.ListN.{length, get_or, length-append, length-map, get_or-append}
use lib.Seq.{get_or-append-add, get_or_at}
use Rattle.octagon.specs.Outcome.{accepted, refused}
use Rattle.cell_count.specs.Count.{sum}
use Rattle.sheet.specs.declared.Record.{Record}
use Rattle.sheet.specs.Checking.{plots, checked}
use Rattle.report.specs.Lines.{newline, heading_line, last_line}
use Rattle.report.specs.Listing.{cell_number, row_of, rows_of, total_cells, listing}
use Rattle.report.specs.ReadBack.{divided, line_of, column_names, ReadBack, RefusedBack}
use Rattle.report.proofs.Decimals.{integer_signed_decimal}
use Rattle.report.proofs.Plots.{blank, plot, plots_counted, plot_fetched}
use Rattle.report.proofs.Listings.{listing_refused, listing_lines, plot_counted}
use Rattle.report.proofs.Divisions.{tested_above, divided_first}
use Rattle.report.proofs.LinesRead.{map_at, is_number, row_lined, row_read, last_lined, last_read, refusal_lined}

-- ---- the sum of the plots' cells

sum_later : (n : ℕ) (f : ℕ → ℕ) → sum (suc n) f ≡ f 0 + sum n (λ k. f (suc k))
unfolding sum
sum_later zero f = omega arith
sum_later (suc n) f = omega (arith, sum_later n f)

cells_summed : (rs : List Record) → total_cells rs ≡ sum (length rs) (λ k. cell_number (plot rs k).outline)
unfolding sum
cells_summed [] = refl
cells_summed (r ∷ rs) = omega (arith, cells_summed rs, sum_later (length rs) (λ k. cell_number (plot (r ∷ rs) k).outline))

plots_summed : (s : List ℕ) (len c : ℕ) → checked s len ≡ accepted c → let rs = plots s len in total_cells rs ≡ sum c (λ k. cell_number (plot rs k).outline)
plots_summed s len c e = rw (plots_counted s len c e) at (cells_summed (plots s len))

-- ---- the lines

-- the row of a plot, and the last line, without their newlines
plot_text : Record → List ℕ
plot_text r = (row_lined r (cell_number r.outline)).unended

last_text : List ℕ → ℕ → ℕ → List ℕ
last_text s len c = (last_lined c (total_cells (plots s len))).unended

rows_divided : (rs : List Record) (t : List ℕ) → divided newline (rows_of rs ++ t) ≡ map plot_text rs ++ divided newline t
unfolding plot_text row_of
rows_divided [] t = refl
rows_divided (r ∷ rs) t =
    rw (append_assoc (row_of r) (rows_of rs) t, (row_lined r (cell_number r.outline)).followed (rows_of rs ++ t), rows_divided rs t)

heading_divided : (t : List ℕ) → divided newline (heading_line ++ t) ≡ column_names ∷ divided newline t
unfolding heading_line column_names
heading_divided t = divided_first t (tested_above newline column_names refl)

-- the second element of those that follow a list
get_d_past : {A : Type 0} (l : List A) (y z d : A) (n : ℕ) → length l ≡ n → get_or (l ++ (y ∷ z ∷ [])) (suc n) d ≡ z
get_d_past l y z d n e = rw (add-one (length l), e) at (get_or-append-add l (y ∷ z ∷ []) 1 d)

module _ (s : List ℕ) (len c : ℕ) (e : checked s len ≡ accepted c) where
  listing_divided : divided newline (listing s len) ≡ column_names ∷ map plot_text (plots s len) ++ (last_text s len c ∷ [] ∷ [])
  unfolding last_text
  listing_divided =
      let rs = plots s len in
      let l = last_line c (total_cells rs) in
      rw (listing_lines s len c e, heading_divided (rows_of rs ++ l), rows_divided rs l, (last_lined c (total_cells rs)).alone)

  many : length (map plot_text (plots s len)) ≡ c
  many = length-map (plots s len) plot_text ∙ plots_counted s len c e

  line_number : length (divided newline (listing s len)) ≡ c + 3
  line_number = rw listing_divided (omega (arith, length-append (map plot_text (plots s len)) (last_text s len c ∷ [] ∷ []), many))

  row_at : (k : ℕ) → k < c → line_of (listing s len) (k + 1) ≡ plot_text (plot (plots s len) k)
  row_at k h =
      rw (listing_divided, add-one k, get_or-append (map plot_text (plots s len)) _ [] k (omega (arith, many)))
      (map_at plot_text (plots s len) k blank (omega (arith, plots_counted s len c e)))

  last_at : line_of (listing s len) (c + 1) ≡ last_text s len c
  last_at = rw (listing_divided, add-one c) (get_or_at (map plot_text (plots s len)) _ _ [] c many)

  end_at : line_of (listing s len) (c + 2) ≡ []
  end_at = rw (listing_divided, add-two c) (get_d_past (map plot_text (plots s len)) _ [] [] c many)

-- ---- the theorems

pub listing_read_back : (s : List ℕ) (len c : ℕ) → checked s len ≡ accepted c → ReadBack s len c (listing s len)
unfolding plot_text last_text
listing_read_back s len c e =
    let rs = plots s len in
    record {
      plot_at = plot rs;
      cells_at = λ k. cell_number (plot rs k).outline;
      are_fetched = λ k h. plot_fetched s len c k e h;
      are_counted = λ k h. plot_counted s len c k e h;
      line_count = line_number s len c e;
      first_line = rw (listing_divided s len c e);
      plot_rows = λ k h. rw (row_at s len c e k h) (row_read (plot rs k) (cell_number (plot rs k).outline));
      final_line = rw (last_at s len c e, ← plots_summed s len c e) (last_read c (total_cells rs));
      ending = end_at s len c e;
    }

pub refused_read_back : (s : List ℕ) (len k : ℕ) → checked s len ≡ refused k → RefusedBack k (listing s len)
refused_read_back s len k e =
    let l = ap (divided newline) (listing_refused s len k e) ∙ (refusal_lined k).alone in
    let w = (refusal_lined k).words in
    record {
      line_count = rw l;
      word_count = rw (l, w);
      refused_word = rw (l, w);
      refusal = rw (l, w) (integer_signed_decimal (pos k));
      refusal_number = rw (l, w) (is_number (pos k));
      ending = rw l;
    }
