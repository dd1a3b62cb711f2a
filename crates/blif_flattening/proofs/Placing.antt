-- A placement in an instance makes an instance of its own.
use Rattle.std.proofs.Common.{◌≡◌, ◌≢◌, ℕ, ◌+◌, ◌<◌, List, [], ◌∷◌, ◌++◌, length, get_or, slice_get, All, Option, Some, None, option_and_then, refl, sym, ap, ◌∙◌, subst, ⊎_elim, arith}
use Rattle.std.specs.Option.{ForSome}
use Rattle.std.proofs.lemmas.List.{append_assoc, length-append, get_or_default}
use Rattle.blif_flattening.specs.declared.model.Signal.{Signal}
use Rattle.blif_flattening.specs.declared.model.Placement.{Placement}
use Rattle.blif_flattening.specs.declared.model.Model.{Model}
use Rattle.blif_flattening.specs.declared.instance.Instance.{Instance}
use Rattle.blif_flattening.specs.declared.walk.Progress.{Progress}
use Rattle.blif_flattening.specs.Members.{Among}
use Rattle.blif_flattening.specs.Hierarchy.{Path, Placed, items_of, placements_in, placement_at, placed_model, actual_in, actual_of, owner_by, owner}
use Rattle.blif_flattening.specs.Cells.{signal_in}
use Rattle.blif_flattening.specs.Instances.{names_of, IsNamed, HasActuals, AreCells, Opens, opened_by, IsOpened, Under, IsFresh, Grows}
use Rattle.blif_flattening.specs.Walks.{Walks}
use Rattle.blif_flattening.proofs.Members.{from_append}
use Rattle.blif_flattening.proofs.Visiting.{Among-placement, under_one}

module _ (Line : Type 0) (mentions : Line → List ℕ) (models : List (Model Line)) (is_named : IsNamed mentions models) (instance : Instance)
    (owners : List Signal) (opened : IsOpened models owners instance) (k : ℕ) (placement : Placement)
    (placed : placement_at models instance.path k ≡ Some placement) (fresh : IsFresh owners instance.path k) where
  pub fresh-open : (signal : Signal) → Among signal owners → signal.path ≢ k ∷ instance.path
  fresh-open signal there is = fresh signal there k (omega arith) (record { rest = []; is = is })

  actual-below : (formal actual : ℕ) → actual_in placement.connections formal ≡ Some actual → actual < names_of models instance.model
  actual-below formal actual is =
      is_named.actuals instance.model placement
      (Among-placement (items_of models instance.model) k placement
      (subst (λ m. slice_get (placements_in (items_of models m)) k ≡ Some placement) (sym opened.model) placed))
      formal actual is

  module _ (actuals : List (Option ℕ)) (has : HasActuals placement.connections (names_of models placement.model) actuals) where
    pub actuals-known : All (λ actual. ForSome actual (λ name. name < length instance.cells)) actuals
    actuals-known name d lt actual is =
        let at : get_or actuals name None ≡ Some actual = get_or_default actuals name None d lt ∙ is in
        let below = actual-below name actual (sym (has.each name (omega (arith, has.size))) ∙ at) in
        omega (arith, below, opened.cells.size)

    -- what a name is connected with
    actual-is : (name : ℕ) → name < names_of models placement.model → get_or actuals name None ≡ actual_of models instance.path k name
    actual-is name lt =
        has.each name lt ∙ sym (ap (λ (o : Option Placement). option_and_then (λ (p : Placement). actual_in p.connections name) o) placed)

    own-by : (name : ℕ) (actual : Option ℕ) → actual_of models instance.path k name ≡ actual
        → ((above : ℕ) → actual ≡ Some above → above < names_of models instance.model)
        → owner_by (λ above. signal_in owners (get_or instance.cells above 0)) (k ∷ instance.path) name actual
        ≡ owner_by (owner models instance.path) (k ∷ instance.path) name actual
    own-by name None is below = refl
    own-by name (Some above) is below = opened.cells.each above (below above refl)

    own-is : (name : ℕ) → name < names_of models placement.model
        → opened_by owners instance.cells (k ∷ instance.path) actuals name ≡ owner models (k ∷ instance.path) name
    own-is name lt =
        ap (owner_by (λ above. signal_in owners (get_or instance.cells above 0)) (k ∷ instance.path) name) (actual-is name lt)
        ∙ own-by name (actual_of models instance.path k name) refl
        (λ above is. actual-below name above (sym (has.each name lt) ∙ actual-is name lt ∙ is))

    pub IsOpened-placed : (new : List Signal) (cells : List ℕ) → AreCells new cells (length actuals) (opened_by owners instance.cells (k ∷ instance.path) actuals)
        → IsOpened models new (record { path = k ∷ instance.path; model = placement.model; cells = cells })
    IsOpened-placed new cells are = record {
      model = sym (ap placed_model placed);
      cells = record {
        size = are.size ∙ has.size;
        within = λ name lt. are.within name (omega (arith, has.size));
        each = λ name lt. are.each name (omega (arith, has.size)) ∙ own-is name lt;
      };
    }

  -- the table of signals grows below the placement alone
  module _ (count : ℕ) (mid new : List Signal) (opens : Opens (k ∷ instance.path) count owners mid) where
    pub fresh-below : IsFresh mid (k ∷ instance.path) 0
    fresh-below signal there later le under =
        ⊎_elim
        (λ old. fresh signal old k (omega arith)
        (record { rest = under.rest ++ later ∷ []; is = under.is ∙ sym (append_assoc under.rest (later ∷ []) (k ∷ instance.path)) }))
        (λ added. let here = opens.here signal added in
        let sizes : length (k ∷ instance.path) ≡ length (under.rest ++ later ∷ k ∷ instance.path) = ap (λ (p : Path). length p) (sym here.0 ∙ under.is) in
        absurd (omega (arith, sizes, length-append under.rest (later ∷ k ∷ instance.path))))
        (from_append signal owners opens.added (subst (λ xs. Among signal xs) opens.is there))

    module _ (grows : Grows (k ∷ instance.path) mid new) where
      under-here : (signal : Signal) → Among signal (opens.added ++ grows.added) → Under (k ∷ instance.path) signal.path
      under-here signal there =
          ⊎_elim (λ first. record { rest = []; is = (opens.here signal first).0 })
          (λ second. let below = grows.below signal second in
          record { rest = below.1.rest ++ below.0 ∷ []; is = below.1.is ∙ sym (append_assoc below.1.rest (below.0 ∷ []) (k ∷ instance.path)) })
          (from_append signal opens.added grows.added there)

      all-is : new ≡ owners ++ (opens.added ++ grows.added)
      all-is = grows.is ∙ ap (λ xs. xs ++ grows.added) opens.is ∙ append_assoc owners opens.added grows.added

      pub Grows-placed : Grows instance.path owners new
      Grows-placed = record { added = opens.added ++ grows.added; is = all-is; below = λ signal there. (k, under-here signal there) }

      pub fresh-next : IsFresh new instance.path (k + 1)
      fresh-next signal there later le under =
          ⊎_elim (λ old. fresh signal old later (omega arith) under)
          (λ added. let here = under-here signal added in
          let same : k ≡ later = under_one here.rest under.rest instance.path k later (sym here.is ∙ under.is) in absurd (omega arith))
          (from_append signal owners (opens.added ++ grows.added) (subst (λ xs. Among signal xs) all-is there))

-- a walk that begins where nothing was found in between
pub Walks-after : (Line : Type 0) (mentions : Line → List ℕ) (models : List (Model Line)) (lines : List (Placed Line)) (old mid new : Progress)
    → mid.table.seen ≡ old.table.seen → mid.lines ≡ old.lines → Walks mentions models lines mid new → Walks mentions models lines old new
Walks-after Line mentions models lines old mid new seen found walks = record { seen = rw (← seen) walks.seen; found = rw (← found) walks.found }
