-- The top is opened, and everything is walked over.
use Rattle.std.proofs.Common.{◌≡◌, ℕ, ◌≤◌, List, [], ◌∷◌, ◌++◌, length, map, get_or, Option, refl, sym, ap, ◌∙◌, subst, ⊎_elim, arith}
use Rattle.std.proofs.lemmas.List.{length-append}
use Rattle.blif_flattening.specs.declared.model.Signal.{Signal}
use Rattle.blif_flattening.specs.declared.model.Model.{Model}
use Rattle.blif_flattening.specs.declared.model.TheConstants.{DEEPEST}
use Rattle.blif_flattening.specs.declared.walk.Progress.{Progress}
use Rattle.blif_flattening.specs.Members.{Among}
use Rattle.blif_flattening.specs.Hierarchy.{Path, owner_by, expand, mentioned, flat_lines}
use Rattle.blif_flattening.specs.Numbers.{onto, signals}
use Rattle.blif_flattening.specs.Cells.{signal_in}
use Rattle.blif_flattening.specs.Instances.{names_of, HasActuals, AreCells, Opens, opened_by, IsOpened, IsFresh}
use Rattle.blif_flattening.specs.Walks.{line_view, placed_view, Walks}
use Rattle.blif_flattening.proofs.Members.{from_append}

pub IsOpened-top : {Line : Type 0} (models : List (Model Line)) (old new : List Signal) (above cells : List ℕ) (path : Path) (actuals : List (Option ℕ)) → path ≡ []
    → HasActuals [] (names_of models 0) actuals → AreCells new cells (length actuals) (opened_by old above path actuals)
    → IsOpened models new (record { path = path; model = 0; cells = cells })
IsOpened-top models old new above cells path actuals top has are =
    subst (λ (p : Path). IsOpened models new (record { path = p; model = 0; cells = cells })) (sym top)
    (record {
      model = refl;
      cells = record {
        size = are.size ∙ has.size;
        within = λ name lt. are.within name (omega (arith, has.size));
        each = λ name lt.
            are.each name (omega (arith, has.size))
            ∙ ap (λ (p : Path). opened_by old above p actuals name) top
            ∙ ap (owner_by (λ actual. signal_in old (get_or above actual 0)) [] name) (has.each name lt);
      };
    })

pub IsFresh-top : (old new : List Signal) (count : ℕ) (path : Path) → old ≡ [] → path ≡ [] → Opens path count old new → IsFresh new [] 0
IsFresh-top old new count path none top opens signal there later le under =
    let inside : Among signal (old ++ opens.added) = subst (λ xs. Among signal xs) opens.is there in
    ⊎_elim (λ before. subst (λ xs. Among signal xs) none before)
    (λ added. let here = opens.here signal added in
    let sizes : 0 ≡ length (under.rest ++ later ∷ []) = ap (λ (p : Path). length p) (sym top ∙ sym here.0 ∙ under.is) in
    absurd (omega (arith, sizes, length-append under.rest (later ∷ []))))
    (from_append signal old opens.added inside)

module _ (Line : Type 0) (mentions : Line → List ℕ) (models : List (Model Line)) (levels : ℕ) (deepest : levels ≡ DEEPEST) (path : Path) (top : path ≡ []) where
  all-lines : expand models levels path ≡ flat_lines models
  unfolding flat_lines
  all-lines = ap (expand models levels) top ∙ ap (λ n. expand models n []) deepest

  all-signals : (seen : List Signal) → seen ≡ [] → onto seen (mentioned mentions models (expand models levels path)) ≡ signals mentions models
  all-signals seen none =
      ap (λ s. onto s (mentioned mentions models (expand models levels path))) none ∙ ap (λ lines. onto [] (mentioned mentions models lines)) all-lines

  pub room-all : (seen : List Signal) → seen ≡ [] → (room : ℕ) → length (signals mentions models) ≤ room
      → length (onto seen (mentioned mentions models (expand models levels path))) ≤ room
  room-all seen none room fits = subst (λ s. length s ≤ room) (sym (all-signals seen none)) fits

  module _ (old new : Progress) (walks : Walks mentions models (expand models levels path) old new) (seen : old.table.seen ≡ []) where
    pub seen-all : new.table.seen ≡ signals mentions models
    seen-all = walks.seen ∙ all-signals old.table.seen seen

    pub found-all : old.lines ≡ [] → map (line_view models) new.lines ≡ map (placed_view mentions models (signals mentions models)) (flat_lines models)
    found-all none =
        walks.found ∙ ap (λ ls. map (line_view models) ls ++ map (placed_view mentions models new.table.seen) (expand models levels path)) none
        ∙ ap (λ s. map (placed_view mentions models s) (expand models levels path)) seen-all
        ∙ ap (map (placed_view mentions models (signals mentions models))) all-lines
