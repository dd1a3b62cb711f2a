-- A walk goes over what a model lists, one item after the other.
use Rattle.std.proofs.Common.{◌≡◌, ℕ, zero, suc, ◌+◌, ◌≤◌, List, [], ◌∷◌, ◌++◌, length, map, drop, get_or, slice_get, Option, Some, refl, sym, ap, ◌∙◌, subst, ⊎_elim, arith}
use Rattle.std.proofs.lemmas.List.{append-nil, append_assoc, map-append, drop_all, length-append, get_or_append_left}
use Rattle.std.proofs.lemmas.Grind.{flat_map-append}
use Rattle.blif_flattening.specs.declared.model.Signal.{Signal}
use Rattle.blif_flattening.specs.declared.model.Item.{Item}
use Rattle.blif_flattening.specs.declared.model.Item.TheVariants.{Own, Place}
use Rattle.blif_flattening.specs.declared.model.Model.{Model}
use Rattle.blif_flattening.specs.declared.instance.Instance.{Instance}
use Rattle.blif_flattening.specs.declared.walk.Progress.{Progress}
use Rattle.blif_flattening.specs.Cells.{SignalTable}
use Rattle.blif_flattening.specs.Members.{Among}
use Rattle.blif_flattening.specs.Hierarchy.{Path, Placed, items_of, placements_in, model_at, owner, lines_by, mentioned_by, mentioned}
use Rattle.blif_flattening.specs.Numbers.{onto, place_of}
use Rattle.blif_flattening.specs.Instances.{names_of, AreCells, IsOpened, IsFresh, Grows}
use Rattle.blif_flattening.specs.Walks.{line_view, placed_view, item_lines, next_place, IsPlacedAs, Walks}
use Rattle.blif_flattening.proofs.Members.{from_append, Among-left, Among-right}
use Rattle.blif_flattening.proofs.Numbering.{onto-append, onto-adds, onto-longer, numbers-stay}

-- an instance stays open while the table of signals grows
pub AreCells-grown : (old added : List Signal) (cells : List ℕ) (count : ℕ) (own : ℕ → Signal) → AreCells old cells count own
    → AreCells (old ++ added) cells count own
AreCells-grown old added cells count own are = record {
  size = are.size;
  within = λ name lt. omega (arith, are.within name lt, length-append old added);
  each = λ name lt. get_or_append_left old added (record { path = []; name = 0 }) (get_or cells name 0) (are.within name lt) ∙ are.each name lt;
}

-- what is left of a list at one of its members
pub drop-at : {X : Type 0} (xs : List X) (i : ℕ) (x : X) → slice_get xs i ≡ Some x → drop i xs ≡ x ∷ drop (i + 1) xs
drop-at [] i x is = cc
drop-at (y ∷ xs) zero x is = let same : y ≡ x = cc in ap (λ z. z ∷ xs) same
drop-at (y ∷ xs) (suc i) x is =
    let more : suc i + 1 ≡ suc (i + 1) = omega arith in drop-at xs i x is ∙ ap (λ n. x ∷ drop n (y ∷ xs)) (sym more)

-- the lines of a list of items, with those of the first one apart
lines-step : {Line : Type 0} (below : Path → List (Placed Line)) (path : Path) (k : ℕ) (entry : Item Line) (items : List (Item Line))
    → lines_by below path k (entry ∷ items) ≡ item_lines below path k entry ++ lines_by below path (next_place k entry) items
lines-step below path k (Own line) items = refl
lines-step below path k (Place placement) items =
    let next : suc k ≡ k + 1 = omega arith in ap (λ n. below (k ∷ path) ++ lines_by below path n items) next

next-few : {Line : Type 0} (entry : Item Line) (k : ℕ) → next_place k entry ≤ k + 1
next-few (Own line) k = omega arith
next-few (Place placement) k = omega arith

places-next : {Line : Type 0} (entry : Item Line) (rest here items : List (Item Line)) (k : ℕ) → here ≡ entry ∷ rest
    → ((j : ℕ) → slice_get (placements_in here) j ≡ slice_get (placements_in items) (k + j))
    → (j : ℕ) → slice_get (placements_in rest) j ≡ slice_get (placements_in items) (next_place k entry + j)
places-next (Own line) rest here items k is places j = ap (λ xs. slice_get (placements_in xs) j) (sym is) ∙ places j
places-next (Place placement) rest here items k is places j =
    let more : k + suc j ≡ k + 1 + j = omega arith in
    ap (λ xs. slice_get (placements_in xs) (suc j)) (sym is) ∙ places (suc j) ∙ ap (slice_get (placements_in items)) more

by_entry : {Line : Type 0} (models : List (Model Line)) (path : Path) (items here rest : List (Item Line)) (k : ℕ) (entry : Item Line)
    → here ≡ entry ∷ rest → slice_get (placements_in here) 0 ≡ slice_get (placements_in items) (k + 0) → items ≡ items_of models (model_at models path)
    → IsPlacedAs models path k entry
by_entry models path items here rest k (Own line) opened first is = tt
by_entry models path items here rest k (Place placement) opened first is =
    let same : k + 0 ≡ k = omega arith in
    ap (λ xs. slice_get (placements_in xs) k) (sym is) ∙ sym (ap (slice_get (placements_in items)) same) ∙ sym first
    ∙ ap (λ xs. slice_get (placements_in xs) 0) opened

-- growing twice
pub Grows-none : (path : Path) (owners : List Signal) → Grows path owners owners
Grows-none path owners = record { added = []; is = sym (append-nil owners); below = λ signal none. absurd none }

pub Grows-append : (path : Path) (old mid new : List Signal) → Grows path old mid → Grows path mid new → Grows path old new
Grows-append path old mid new first second = record {
  added = first.added ++ second.added;
  is = second.is ∙ ap (λ xs. xs ++ second.added) first.is ∙ append_assoc old first.added second.added;
  below = λ signal there. ⊎_elim (λ one. first.below signal one) (λ other. second.below signal other) (from_append signal first.added second.added there);
}

module _ (Line : Type 0) (mentions : Line → List ℕ) (models : List (Model Line)) where
  pub IsOpened-grown : (path : Path) (old new : List Signal) (instance : Instance) → Grows path old new → IsOpened models old instance → IsOpened models new instance
  IsOpened-grown path old new instance grows opened = record {
    model = opened.model;
    cells = subst (λ owners. AreCells owners instance.cells (names_of models instance.model) (owner models instance.path)) (sym grows.is)
        (AreCells-grown old grows.added instance.cells (names_of models instance.model) (owner models instance.path) opened.cells);
  }

  mentioned-append : (xs ys : List (Placed Line)) → mentioned mentions models (xs ++ ys) ≡ mentioned mentions models xs ++ mentioned mentions models ys
  mentioned-append xs ys = flat_map-append (mentioned_by mentions models) xs ys

  -- what was found keeps its numbers
  views-stay : (seen more : List Signal) (lines : List (Placed Line)) → ((x : Signal) → Among x (mentioned mentions models lines) → Among x seen)
      → map (placed_view mentions models (onto seen more)) lines ≡ map (placed_view mentions models seen) lines
  views-stay seen more [] all = refl
  views-stay seen more (line ∷ lines) all =
      let here : map (place_of (onto seen more)) (mentioned_by mentions models line) ≡ map (place_of seen) (mentioned_by mentions models line) =
      numbers-stay seen more (mentioned_by mentions models line)
      (λ x there. all x (Among-left x (mentioned_by mentions models line) (mentioned mentions models lines) there)) in
      let first : placed_view mentions models (onto seen more) line ≡ placed_view mentions models seen line =
      ap (λ (ns : List ℕ). let view : Option (Item Line) × List ℕ = (Some (Own line.1), ns) in view) here in
      let rest = views-stay seen more lines (λ x there. all x (Among-right x (mentioned_by mentions models line) (mentioned mentions models lines) there)) in
      cc

  pub Walks-none : (progress : Progress) → Walks mentions models [] progress progress
  Walks-none progress = record { seen = refl; found = sym (append-nil (map (line_view models) progress.lines)) }

  pub Walks-same : (old new : Progress) → new.table ≡ old.table → new.lines ≡ old.lines → Walks mentions models [] old new
  Walks-same old new table lines = record {
    seen = ap (λ (t : SignalTable). t.seen) table;
    found = ap (map (line_view models)) lines ∙ sym (append-nil (map (line_view models) old.lines));
  }

  pub Walks-append : (xs ys : List (Placed Line)) (old mid new : Progress) → Walks mentions models xs old mid → Walks mentions models ys mid new
      → Walks mentions models (xs ++ ys) old new
  Walks-append xs ys old mid new first second =
      let seen_first : (x : Signal) → Among x (mentioned mentions models xs) → Among x mid.table.seen =
      λ x there. subst (λ zs. Among x zs) (sym first.seen) (onto-adds old.table.seen (mentioned mentions models xs) x there) in
      let stay : map (placed_view mentions models new.table.seen) xs ≡ map (placed_view mentions models mid.table.seen) xs =
      ap (λ s. map (placed_view mentions models s) xs) second.seen ∙ views-stay mid.table.seen (mentioned mentions models ys) xs seen_first in
      record {
        seen = second.seen ∙ ap (λ s. onto s (mentioned mentions models ys)) first.seen
            ∙ sym (onto-append old.table.seen (mentioned mentions models xs) (mentioned mentions models ys))
            ∙ ap (onto old.table.seen) (sym (mentioned-append xs ys));
        found = second.found ∙ ap (λ v. v ++ map (placed_view mentions models new.table.seen) ys) (first.found ∙ ap (λ v. map (line_view models) old.lines ++ v) (sym stay))
            ∙ append_assoc (map (line_view models) old.lines) (map (placed_view mentions models new.table.seen) xs) (map (placed_view mentions models new.table.seen) ys)
            ∙ ap (λ v. map (line_view models) old.lines ++ v) (sym (map-append (placed_view mentions models new.table.seen) xs ys));
      }

  module _ (path : Path) (below : Path → List (Placed Line)) (items : List (Item Line)) (old : Progress) where
    -- the items before one were walked over
    pub record Walking (now : Progress) (item k : ℕ) : Type 0 where
      pub consumed : List (Placed Line)
      pub walks : Walks mentions models consumed old now
      pub left : consumed ++ lines_by below path k (drop item items) ≡ lines_by below path 0 items
      pub grows : Grows path old.table.owners now.table.owners
      pub fresh : IsFresh now.table.owners path k
      pub places : (j : ℕ) → slice_get (placements_in (drop item items)) j ≡ slice_get (placements_in items) (k + j)
      pub few : k ≤ item

    pub walking-start : (now : Progress) → now.table ≡ old.table → now.lines ≡ old.lines → IsFresh old.table.owners path 0 → Walking now 0 0
    walking-start now table lines fresh = record {
      consumed = [];
      walks = Walks-same old now table lines;
      left = refl;
      grows = record { added = []; is = ap (λ (t : SignalTable). t.owners) table ∙ sym (append-nil old.table.owners); below = λ signal none. absurd none };
      fresh = subst (λ (t : SignalTable). IsFresh t.owners path 0) (sym table) fresh;
      places = λ j. let same : 0 + j ≡ j = omega arith in ap (λ n. slice_get (placements_in items) n) (sym same);
      few = omega arith;
    }

    module _ (now : Progress) (item k : ℕ) (walking : Walking now item k) (entry : Item Line) (at : slice_get items item ≡ Some entry) where
      opened_up : drop item items ≡ entry ∷ drop (item + 1) items
      opened_up = drop-at items item entry at

      pub placed-as : items ≡ items_of models (model_at models path) → IsPlacedAs models path k entry
      placed-as is = by_entry models path items (drop item items) (drop (item + 1) items) k entry opened_up (walking.places 0) is

      whole : lines_by below path 0 items ≡ walking.consumed ++ (item_lines below path k entry ++ lines_by below path (next_place k entry) (drop (item + 1) items))
      whole =
          sym walking.left
          ∙ ap (λ rest. walking.consumed ++ lines_by below path k rest) opened_up
          ∙ ap (λ lines. walking.consumed ++ lines) (lines-step below path k entry (drop (item + 1) items))

      pub room-item : (room : ℕ) → length (onto old.table.seen (mentioned mentions models (lines_by below path 0 items))) ≤ room
          → length (onto now.table.seen (mentioned mentions models (item_lines below path k entry))) ≤ room
      room-item room fits =
          let here : List Signal = mentioned mentions models (item_lines below path k entry) in
          let rest : List (Placed Line) = lines_by below path (next_place k entry) (drop (item + 1) items) in
          let all : onto old.table.seen (mentioned mentions models (lines_by below path 0 items)) ≡ onto (onto now.table.seen here) (mentioned mentions models rest) =
          ap (λ lines. onto old.table.seen (mentioned mentions models lines)) whole
          ∙ ap (onto old.table.seen) (mentioned-append walking.consumed (item_lines below path k entry ++ rest)
          ∙ ap (λ m. mentioned mentions models walking.consumed ++ m) (mentioned-append (item_lines below path k entry) rest))
          ∙ onto-append old.table.seen (mentioned mentions models walking.consumed) (here ++ mentioned mentions models rest)
          ∙ ap (λ seen. onto seen (here ++ mentioned mentions models rest)) (sym walking.walks.seen)
          ∙ onto-append now.table.seen here (mentioned mentions models rest) in
          omega (arith, ap length all, onto-longer (onto now.table.seen here) (mentioned mentions models rest))

      pub walking-next : (next : Progress) (k' : ℕ) → Walks mentions models (item_lines below path k entry) now next
          → Grows path now.table.owners next.table.owners → IsFresh next.table.owners path k' → k' ≡ next_place k entry → Walking next (item + 1) k'
      walking-next next k' walks grows fresh is = record {
        consumed = walking.consumed ++ item_lines below path k entry;
        walks = Walks-append walking.consumed (item_lines below path k entry) old now next walking.walks walks;
        left = ap (λ n. (walking.consumed ++ item_lines below path k entry) ++ lines_by below path n (drop (item + 1) items)) is
            ∙ append_assoc walking.consumed (item_lines below path k entry) (lines_by below path (next_place k entry) (drop (item + 1) items))
            ∙ sym whole;
        grows = Grows-append path old.table.owners now.table.owners next.table.owners walking.grows grows;
        fresh = fresh;
        places = λ j. subst (λ n. slice_get (placements_in (drop (item + 1) items)) j ≡ slice_get (placements_in items) (n + j)) (sym is)
            (places-next entry (drop (item + 1) items) (drop item items) items k opened_up walking.places j);
        few = omega (arith, walking.few, is, next-few entry k);
      }

    pub walking-end : (now : Progress) (item k : ℕ) → Walking now item k → length items ≤ item
        → Walks mentions models (lines_by below path 0 items) old now × Grows path old.table.owners now.table.owners
    walking-end now item k walking past =
        let none : drop item items ≡ [] = drop_all item items past in
        let all : walking.consumed ≡ lines_by below path 0 items =
        sym (append-nil walking.consumed) ∙ ap (λ rest. walking.consumed ++ lines_by below path k rest) (sym none) ∙ walking.left in
        (subst (λ lines. Walks mentions models lines old now) all walking.walks, walking.grows)
