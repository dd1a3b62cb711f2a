-- The names of an instance are opened one by one.
use Rattle.std.proofs.Common.{◌≡◌, ◌≢◌, ℕ, ◌+◌, ◌<◌, List, [], ◌∷◌, ◌++◌, length, get_or, All, Option, Some, None, refl, sym, ap, ◌∙◌, subst, ⊎_elim, arith}
use Rattle.std.specs.Option.{ForSome}
use Rattle.std.proofs.lemmas.List.{get_or_append_left, get_or_push, length_push, length-append, append-nil, append_assoc}
use Rattle.blif_flattening.specs.declared.model.Signal.{Signal}
use Rattle.blif_flattening.specs.Members.{Among}
use Rattle.blif_flattening.specs.Hierarchy.{Path, owner_by}
use Rattle.blif_flattening.specs.Cells.{no_signal, signal_in}
use Rattle.blif_flattening.specs.Instances.{AreCells, Opens, OpensName, opened_by, own_signal}
use Rattle.blif_flattening.proofs.Members.{from_append}
use Rattle.blif_flattening.proofs.Tables.{pushed_place}

-- a table that grows keeps the signals that are there
pub signal_in-append : (owners more : List Signal) (cell : ℕ) → cell < length owners → signal_in (owners ++ more) cell ≡ signal_in owners cell
signal_in-append owners more cell lt = get_or_append_left owners more no_signal cell lt

-- nothing is opened yet
pub AreCells-none : (owners : List Signal) (own : ℕ → Signal) → AreCells owners [] 0 own
AreCells-none owners own = record {
  size = refl;
  within = λ name lt. absurd (omega arith);
  each = λ name lt. absurd (omega arith);
}

pub Opens-none : (path : Path) (owners : List Signal) → Opens path 0 owners owners
Opens-none path owners = record { added = []; is = sym (append-nil owners); here = λ signal none. absurd none }

module _ (above : List ℕ) (path : Path) (actuals : List (Option ℕ)) (old : List Signal) (in_table : All (λ cell. cell < length old) above)
    (known : All (λ actual. ForSome actual (λ name. name < length above)) actuals)
    (now : List Signal) (cells : List ℕ) (count : ℕ) (in_actuals : count < length actuals) (are : AreCells now cells count (opened_by old above path actuals))
    (opens : Opens path count old now) where
  -- what is above stays in its cells
  above-within : All (λ cell. cell < length now) above
  above-within k d lt = let less = in_table k d lt in omega (arith, less, ap length opens.is, length-append old opens.added)

  same-above : (name : ℕ) → name < length above → signal_in now (get_or above name 0) ≡ signal_in old (get_or above name 0)
  same-above name lt =
      ap (λ owners. signal_in owners (get_or above name 0)) opens.is ∙ signal_in-append old opens.added (get_or above name 0) (in_table name 0 lt)

  -- the name that comes next has no signal yet
  pub fresh-next : ((signal : Signal) → Among signal old → signal.path ≢ path) → Among (own_signal path count) now → ⊥
  fresh-next fresh there =
      ⊎_elim (λ before. fresh (own_signal path count) before refl)
      (λ added. let here = opens.here (own_signal path count) added in absurd (omega (arith, here.1)))
      (from_append (own_signal path count) old opens.added (subst (λ owners. Among (own_signal path count) owners) opens.is there))

  pub above-next : All (λ cell. cell < length now) above
  above-next = above-within

  module _ (next : List Signal) (cell : ℕ) (name : OpensName above path count (get_or actuals count None) now next cell) where
    grown : (more : List Signal) × (next ≡ now ++ more) × ((signal : Signal) → Among signal more → (signal.path ≡ path) × (signal.name ≡ count))
    grown =
        ⊎_elim (λ same. ([], same ∙ sym (append-nil now), λ signal none. absurd none))
        (λ one. (
          own_signal path count ∷ [],
          one,
          λ signal there. ⊎_elim (λ is. (ap (λ (s : Signal). s.path) (sym is), ap (λ (s : Signal). s.name) (sym is))) (λ none. absurd none) there,
        ))
        name.grown

    stays : (place : ℕ) → place < length now → signal_in next place ≡ signal_in now place
    stays place lt = ap (λ owners. signal_in owners place) grown.1 ∙ signal_in-append now grown.0 place lt

    longer : (place : ℕ) → place < length now → place < length next
    longer place lt = omega (arith, ap length grown.1, length-append now grown.0)

    own-by : (actual : Option ℕ) → get_or actuals count None ≡ actual → ForSome actual (λ n. n < length above)
        → owner_by (λ n. signal_in now (get_or above n 0)) path count actual ≡ owner_by (λ n. signal_in old (get_or above n 0)) path count actual
    own-by None is within = refl
    own-by (Some n) is within = same-above n (within n refl)

    own-next : signal_in next cell ≡ opened_by old above path actuals count
    own-next = name.is ∙ own-by (get_or actuals count None) refl (known count None in_actuals)

    pub AreCells-next : AreCells next (cells ++ cell ∷ []) (count + 1) (opened_by old above path actuals)
    AreCells-next = record {
      size = length_push cells cell ∙ ap (λ n. n + 1) are.size;
      within = λ n lt.
          ⊎_elim (λ before. rw (get_or_append_left cells (cell ∷ []) 0 n (omega (arith, are.size))) (longer (get_or cells n 0) (are.within n before)))
          (λ last. rw (get_or_push cells cell 0 n (are.size ∙ sym last)) name.within) (pushed_place n count lt);
      each = λ n lt.
          ⊎_elim
          (λ before. rw (get_or_append_left cells (cell ∷ []) 0 n (omega (arith, are.size))) (stays (get_or cells n 0) (are.within n before) ∙ are.each n before))
          (λ last. rw (get_or_push cells cell 0 n (are.size ∙ sym last)) (own-next ∙ ap (opened_by old above path actuals) (sym last)))
          (pushed_place n count lt);
    }

    pub Opens-next : Opens path (count + 1) old next
    Opens-next = record {
      added = opens.added ++ grown.0;
      is = grown.1 ∙ ap (λ owners. owners ++ grown.0) opens.is ∙ append_assoc old opens.added grown.0;
      here = λ signal there.
          ⊎_elim (λ first. let here = opens.here signal first in (here.0, omega (arith, here.1)))
          (λ second. let here = grown.2 signal second in (here.0, omega (arith, here.1)))
          (from_append signal opens.added grown.0 there);
    }
