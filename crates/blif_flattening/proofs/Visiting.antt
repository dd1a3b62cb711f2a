-- One item of what a model lists: a line of its own, or a placement.
use Rattle.std.proofs.Common.{◌≡◌, ℕ, zero, suc, ◌+◌, ◌<◌, ◌≤◌, inl, inr, List, [], ◌∷◌, ◌++◌, length, map, get_or, slice_get, All, Option, Some, None, refl, sym, ap, ◌∙◌, subst, arith}
use Rattle.std.proofs.lemmas.List.{append-nil, map_push, length-append, get_or-append-add}
use Rattle.std.proofs.lemmas.Option.{same_Some, slice_get_read, slice_get_past}
use Rattle.blif_flattening.specs.declared.model.Signal.{Signal}
use Rattle.blif_flattening.specs.declared.model.Placement.{Placement}
use Rattle.blif_flattening.specs.declared.model.Item.{Item}
use Rattle.blif_flattening.specs.declared.model.Item.TheVariants.{Own, Place}
use Rattle.blif_flattening.specs.declared.model.Model.{Model}
use Rattle.blif_flattening.specs.declared.instance.Instance.{Instance}
use Rattle.blif_flattening.specs.declared.walk.FlatLine.{FlatLine}
use Rattle.blif_flattening.specs.declared.walk.Progress.{Progress}
use Rattle.blif_flattening.specs.Members.{Among}
use Rattle.blif_flattening.specs.Hierarchy.{Path, items_of, placements_in, owner, mentioned}
use Rattle.blif_flattening.specs.Numbers.{onto, place_of}
use Rattle.blif_flattening.specs.Cells.{signal_in, named}
use Rattle.blif_flattening.specs.Instances.{names_of, IsNamed, IsOpened}
use Rattle.blif_flattening.specs.Walks.{line_view, Walks, AddsLine}
use Rattle.blif_flattening.proofs.Members.{Among-at}

-- what a list has at a place is in it
Among-get : {X : Type 0} (xs : List X) (i : ℕ) (x : X) → slice_get xs i ≡ Some x → Among x xs
Among-get [] i x is = cc
Among-get (y ∷ xs) zero x is = inl (same_Some y x is)
Among-get (y ∷ xs) (suc i) x is = inr (Among-get xs i x is)

pub Among-placement : {Line : Type 0} (items : List (Item Line)) (k : ℕ) (placement : Placement) → slice_get (placements_in items) k ≡ Some placement → Among (Place placement) items
Among-placement [] k placement is = cc
Among-placement (Own line ∷ items) k placement is = inr (Among-placement items k placement is)
Among-placement (Place other ∷ items) zero placement is = inl (ap (λ (p : Placement). Place p) (same_Some other placement is))
Among-placement (Place other ∷ items) (suc k) placement is = inr (Among-placement items k placement is)

-- models by number
pub items_of-get : {Line : Type 0} (models : List (Model Line)) (model : ℕ) (found : Model Line) → slice_get models model ≡ Some found → items_of models model ≡ found.items
items_of-get [] model found is = cc
items_of-get (first ∷ models) zero found is = ap (λ m. m.items) (same_Some first found is)
items_of-get (first ∷ models) (suc model) found is = items_of-get models model found is

pub names_of-get : {Line : Type 0} (models : List (Model Line)) (model : ℕ) (found : Model Line) → slice_get models model ≡ Some found → names_of models model ≡ found.names
names_of-get [] model found is = cc
names_of-get (first ∷ models) zero found is = ap (λ m. m.names) (same_Some first found is)
names_of-get (first ∷ models) (suc model) found is = names_of-get models model found is

pub items_of-none : {Line : Type 0} (models : List (Model Line)) (model : ℕ) → slice_get models model ≡ None → items_of models model ≡ []
items_of-none [] model is = refl
items_of-none (first ∷ models) zero is = cc
items_of-none (first ∷ models) (suc model) is = items_of-none models model is

pub names_of-none : {Line : Type 0} (models : List (Model Line)) (model : ℕ) → slice_get models model ≡ None → names_of models model ≡ 0
names_of-none [] model is = refl
names_of-none (first ∷ models) zero is = cc
names_of-none (first ∷ models) (suc model) is = names_of-none models model is

-- paths below two placements of one instance are not the same
pub under_one : (one other path : Path) (a b : ℕ) → one ++ a ∷ path ≡ other ++ b ∷ path → a ≡ b
under_one one other path a b same =
    let sizes : length one ≡ length other = omega (arith, ap length same, length-append one (a ∷ path), length-append other (b ∷ path)) in
    let at : length one + 0 ≡ length other + 0 = omega arith in
    sym (get_or-append-add one (a ∷ path) 0 0) ∙ ap (λ (p : Path). get_or p (length one + 0) 0) same ∙ ap (λ n. get_or (other ++ b ∷ path) n 0) at
    ∙ get_or-append-add other (b ∷ path) 0 0

module _ (Line : Type 0) (mentions : Line → List ℕ) (models : List (Model Line)) (is_named : IsNamed mentions models) (instance : Instance) where
  -- a line of its own
  module _ (owners : List Signal) (opened : IsOpened models owners instance) (item : ℕ) (line : Line)
      (at : slice_get (items_of models instance.model) item ≡ Some (Own line)) where
    name-below : (name : ℕ) → Among name (mentions line) → name < names_of models instance.model
    name-below name there = is_named.lines instance.model line (Among-get (items_of models instance.model) item (Own line) at) name there

    pub names-within : All (λ name. name < length instance.cells) (mentions line)
    names-within k d lt =
        let below = name-below (get_or (mentions line) k d) (Among-at (mentions line) k d lt) in omega (arith, below, opened.cells.size)

    pub cells-within : All (λ cell. cell < length owners) instance.cells
    cells-within k d lt =
        let less = opened.cells.within k (omega (arith, opened.cells.size)) in
        subst (λ cell. cell < length owners) (default instance.cells k 0 d lt) less
      where
        default : (xs : List ℕ) (k d e : ℕ) → k < length xs → get_or xs k d ≡ get_or xs k e
        default [] k d e lt = absurd (omega arith)
        default (x ∷ xs) zero d e lt = refl
        default (x ∷ xs) (suc k) d e lt = default xs k d e (omega arith)

    -- what its names mention, are the signals of these
    names-mention : (names : List ℕ) → ((name : ℕ) → Among name names → name < names_of models instance.model)
        → named owners instance.cells names ≡ map (owner models instance.path) names
    names-mention [] below = refl
    names-mention (name ∷ names) below =
        let first : signal_in owners (get_or instance.cells name 0) ≡ owner models instance.path name = opened.cells.each name (below name (inl refl)) in
        let rest = names-mention names (λ other there. below other (inr there)) in
        cc

    named-mentioned : named owners instance.cells (mentions line) ≡ mentioned mentions models ((instance.path, line) ∷ [])
    named-mentioned = names-mention (mentions line) name-below ∙ sym (append-nil (map (owner models instance.path) (mentions line)))

    pub room-line : (seen : List Signal) (room : ℕ) → length (onto seen (mentioned mentions models ((instance.path, line) ∷ []))) ≤ room
        → length (onto seen (named owners instance.cells (mentions line))) ≤ room
    room-line seen room fits = subst (λ signals. length (onto seen signals) ≤ room) (sym named-mentioned) fits

    pub Walks-line : (old new : Progress) → old.table.owners ≡ owners → AddsLine instance item (mentions line) old new
        → Walks mentions models ((instance.path, line) ∷ []) old new
    Walks-line old new is adds =
        let signals : List Signal = named old.table.owners instance.cells (mentions line) in
        let same : signals ≡ map (owner models instance.path) (mentions line) =
        ap (λ xs. named xs instance.cells (mentions line)) is ∙ names-mention (mentions line) name-below in
        let line_at : FlatLine = record { model = instance.model; item = item; numbers = map (place_of new.table.seen) signals } in
        let view : Option (Item Line) → List ℕ → Option (Item Line) × List ℕ = λ entry numbers. (entry, numbers) in
        record {
          seen = adds.seen ∙ ap (onto old.table.seen) (ap (λ xs. named xs instance.cells (mentions line)) is ∙ named-mentioned);
          found = ap (map (line_view models)) adds.lines ∙ map_push (line_view models) old.lines line_at
              ∙ ap (λ v. map (line_view models) old.lines ++ v ∷ [])
              (ap (λ entry. view entry (map (place_of new.table.seen) signals)) at ∙ ap (λ xs. view (Some (Own line)) (map (place_of new.table.seen) xs)) same);
        }

-- what the code reads of the models
pub model-read : {Line : Type 0} (models slice : List (Model Line)) (model : ℕ) (found : Model Line) → slice ≡ models → model < length slice
    → found ≡ get_or slice model found → slice_get models model ≡ Some found
model-read models slice model found is lt at = ap (λ ms. slice_get ms model) (sym is) ∙ slice_get_read slice (length slice) model found refl lt at

pub model-none : {Line : Type 0} (models slice : List (Model Line)) (model : ℕ) → slice ≡ models → length slice ≤ model → slice_get models model ≡ None
model-none models slice model is past = ap (λ ms. slice_get ms model) (sym is) ∙ slice_get_past slice model past
