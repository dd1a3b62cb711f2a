-- Rows that are taken one after another.
use Rattle.std.proofs.Common.{◌≡◌, ℕ, ◌+◌, ◌<◌, ◌≤◌, true, false, cond, ◌||◌, List, [], ◌∷◌, ◌++◌, fold, take, length, get_or, sym, ap, ◌∙◌, subst, bit_or, All}
use Rattle.std.proofs.lemmas.List.{take_all}
use Rattle.std.proofs.lemmas.List.Elements.{All-push}
use Rattle.std.proofs.lemmas.List.Sums.{fold_more}
use Rattle.netlist.specs.declared.rows.Mark.{Mark}
use Rattle.netlist.specs.Valuations.{fits_row}
use Rattle.gates_nodes.specs.Nodes.{fits_some}
use Rattle.gates_covers.specs.Greedy.{all_rows, is_taken, opposite, with_taken}
use Rattle.gates_covers.specs.Points.{IsMask, point_of}
use Rattle.gates_covers.proofs.Listing.{four-marks}
use Rattle.gates_covers.proofs.Exact.{some-push}
use Rattle.gates_covers.proofs.Masks.{mask-as, mask-or}

pub row-width : (all : List (List Mark)) (i : ℕ) (row : List Mark) → all ≡ all_rows → i < length all → row ≡ get_or all i [] → length row ≡ 4
row-width all i row is below at = ap (λ (r : List Mark). length r) at ∙ subst (λ l. All (λ (r : List Mark). length r ≡ 4) l) (sym is) four-marks i [] below

step : (rows all others : List (List Mark)) (row : List Mark) (i : ℕ) → i < length all → row ≡ get_or all i [] → others ≡ fold (with_taken rows) [] (take i all) →
    with_taken rows others row ≡ fold (with_taken rows) [] (take (i + 1) all)
step rows all others row i below at taken =
    ap (λ r. with_taken rows others r) at ∙ ap (λ o. with_taken rows o (get_or all i [])) taken ∙ sym (fold_more (with_taken rows) [] all i [] below)

pub row-taken : (rows all others : List (List Mark)) (row : List Mark) (i covered points : ℕ) → all ≡ all_rows → i < length all → row ≡ get_or all i [] → is_taken rows others row ≡ true →
    IsMask points (fits_row row) → others ≡ fold (with_taken rows) [] (take i all) → IsMask covered (fits_some others) → All (λ (r : List Mark). length r ≡ 4) others →
    record {
      taken : others ++ row ∷ [] ≡ fold (with_taken rows) [] (take (i + 1) all);
      covered : IsMask (bit_or covered points) (fits_some (others ++ row ∷ []));
      width : All (λ (r : List Mark). length r ≡ 4) (others ++ row ∷ []);
    }
row-taken rows all others row i covered points is below at holds here taken before width = record {
  taken = sym (ap (λ b. cond b (others ++ row ∷ []) others) holds) ∙ step rows all others row i below at taken;
  covered = mask-as (bit_or covered points) (λ p. fits_some others p || fits_row row p) (fits_some (others ++ row ∷ [])) (λ k few. sym (some-push others row (point_of k)))
      (mask-or covered points (fits_some others) (fits_row row) before here);
  width = All-push (λ (r : List Mark). length r ≡ 4) others row width (row-width all i row is below at);
}

pub row-kept : (rows all others : List (List Mark)) (row : List Mark) (i : ℕ) → i < length all → row ≡ get_or all i [] → is_taken rows others row ≡ false →
    others ≡ fold (with_taken rows) [] (take i all) → others ≡ fold (with_taken rows) [] (take (i + 1) all)
row-kept rows all others row i below at fails taken = sym (ap (λ b. cond b (others ++ row ∷ []) others) fails) ∙ step rows all others row i below at taken

pub all-taken : (rows all others : List (List Mark)) (i : ℕ) → all ≡ all_rows → length all ≤ i → others ≡ fold (with_taken rows) [] (take i all) → others ≡ opposite rows
unfolding opposite
all-taken rows all others i is end taken = taken ∙ ap (fold (with_taken rows) []) (take_all i all end ∙ is)
