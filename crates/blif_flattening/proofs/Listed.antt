-- A walk lists the instances that it opens.
use Rattle.std.proofs.Common.{◌≡◌, ◌≢◌, ℕ, zero, suc, ◌+◌, ◌-◌, ◌<◌, ◌≤◌, ◌^◌, List, [], ◌∷◌, ◌++◌, length, map, drop, get_or, slice_get, All, Option, Some, refl, sym, ap, ◌∙◌, subst, inl, inr, ⊎_elim, arith}
use Rattle.std.proofs.lemmas.List.{append-nil, append_assoc, map-append, drop_all}
use Rattle.std.proofs.lemmas.List.Elements.{All-nil, All-cons}
use Rattle.blif_flattening.specs.declared.instance.Instance.{Instance}
use Rattle.blif_flattening.specs.declared.listing.FlatInstance.{FlatInstance}
use Rattle.blif_flattening.specs.declared.model.Signal.{Signal}
use Rattle.blif_flattening.specs.declared.model.Item.{Item}
use Rattle.blif_flattening.specs.declared.model.Item.TheVariants.{Own, Place}
use Rattle.blif_flattening.specs.declared.model.Model.{Model}
use Rattle.blif_flattening.specs.declared.model.TheConstants.{DEEPEST}
use Rattle.blif_flattening.specs.declared.walk.Progress.{Progress}
use Rattle.blif_flattening.specs.Cells.{SignalTable, signal_in}
use Rattle.blif_flattening.specs.Hierarchy.{Path, items_of, items_at, model_at, owner, placements_in}
use Rattle.blif_flattening.specs.Instances.{IsOpened, Grows, names_of}
use Rattle.blif_flattening.specs.Listing.{AreSmall, IsSmall, Lists, counted_from, flat_instance, instance_by, instances, instances_by, instances_from, item_instances, number_in_list}
use Rattle.blif_flattening.specs.Members.{Among}
use Rattle.blif_flattening.specs.Numbers.{signals}
use Rattle.blif_flattening.specs.Walks.{next_place}
use Rattle.blif_flattening.proofs.Members.{from_append, from_map}
use Rattle.blif_flattening.proofs.Walking.{IsOpened-grown, drop-at}

-- the instances of a list of items, with those of the first one apart
instances-step : {Line : Type 0} (below : Path → List Path) (path : Path) (k : ℕ) (entry : Item Line) (items : List (Item Line))
    → instances_by below path k (placements_in (entry ∷ items))
    ≡ item_instances below path k entry ++ instances_by below path (next_place k entry) (placements_in items)
instances-step below path k (Own line) items = refl
instances-step below path k (Place placement) items =
    let next : suc k ≡ k + 1 = omega arith in ap (λ n. below (k ∷ path) ++ instances_by below path n (placements_in items)) next

pub level-step : {Line : Type 0} (models : List (Model Line)) (levels : ℕ) (path : Path) (model : ℕ) (items : List (Item Line))
    → levels ≢ 0 → model ≡ model_at models path → items_of models model ≡ items
    → instances_from models levels path ≡ path ∷ instances_by (instances_from models (levels - 1)) path 0 (placements_in items)
level-step models zero path model items some is listed = absurd (some refl)
level-step models (suc levels) path model items some is listed =
    let less : levels ≡ suc levels - 1 = omega arith in
    ap (λ n. path ∷ instances_by (instances_from models n) path 0 (placements_in (items_at models path))) less
    ∙ ap (λ its. path ∷ instances_by (instances_from models (suc levels - 1)) path 0 (placements_in its)) (ap (items_of models) (sym is) ∙ listed)

pub small-below : (path : Path) (k : ℕ) → k + 1 < 2 ^ 64 → IsSmall path → IsSmall (k ∷ path)
small-below path k few small = All-cons (λ n. n + 1 < 2 ^ 64) k path few small

pub small-top : (path : Path) → path ≡ [] → IsSmall path
small-top path top = subst IsSmall (sym top) (All-nil (λ n. n + 1 < 2 ^ 64))

module _ (Line : Type 0) (mentions : Line → List ℕ) (models : List (Model Line)) where
  pub Lists-none : (old : List Instance) (new : Progress) → new.instances ≡ old → Lists models [] old new
  Lists-none old new is = record {
    added = [];
    is = is ∙ sym (append-nil old);
    paths_are = refl;
    opened = λ instance there. absurd there;
    small = λ instance there. absurd there;
  }

  pub Lists-self : (instance : Instance) (old : List Instance) (new : Progress) → new.instances ≡ old ++ instance ∷ []
      → IsOpened models new.table.owners instance → IsSmall instance.path → Lists models (instance.path ∷ []) old new
  Lists-self instance old new is opened small = record {
    added = instance ∷ [];
    is = is;
    paths_are = refl;
    opened = λ other there. ⊎_elim (λ same. subst (λ (i : Instance). IsOpened models new.table.owners i) same opened) (λ none. absurd none) there;
    small = λ other there. ⊎_elim (λ same. subst (λ (i : Instance). IsSmall i.path) same small) (λ none. absurd none) there;
  }

  pub Lists-after : (paths : List Path) (old mid : List Instance) (new : Progress) → mid ≡ old → Lists models paths mid new → Lists models paths old new
  Lists-after paths old mid new is lists = subst (λ (list : List Instance). Lists models paths list new) is lists

  pub Lists-append : (path : Path) (xs ys : List Path) (old : List Instance) (mid new : Progress) → Lists models xs old mid
      → Grows path mid.table.owners new.table.owners → Lists models ys mid.instances new → Lists models (xs ++ ys) old new
  Lists-append path xs ys old mid new first grows second = record {
    added = first.added ++ second.added;
    is = second.is ∙ ap (λ (list : List Instance). list ++ second.added) first.is ∙ append_assoc old first.added second.added;
    paths_are = map-append (λ (i : Instance). i.path) first.added second.added
        ∙ ap (λ list. list ++ map (λ (i : Instance). i.path) second.added) first.paths_are
        ∙ ap (λ list. xs ++ list) second.paths_are;
    opened = λ instance there.
        ⊎_elim
        (λ before. IsOpened-grown Line mentions models path mid.table.owners new.table.owners instance grows (first.opened instance before))
        (λ later. second.opened instance later)
        (from_append instance first.added second.added there);
    small = λ instance there.
        ⊎_elim (λ before. first.small instance before) (λ later. second.small instance later)
        (from_append instance first.added second.added there);
  }

  module _ (path : Path) (below : Path → List Path) (items : List (Item Line)) (old : List Instance) where
    -- the instances of the items before one were listed, behind the instance itself
    pub record Listing (now : Progress) (item k : ℕ) : Type 0 where
      pub before : List Path
      pub lists : Lists models before old now
      pub left : before ++ instances_by below path k (placements_in (drop item items)) ≡ path ∷ instances_by below path 0 (placements_in items)

    pub listing-start : (now : Progress) → Lists models (path ∷ []) old now → Listing now 0 0
    listing-start now lists = record { before = path ∷ []; lists = lists; left = refl }

    pub listing-next : (now next : Progress) (item k k' : ℕ) (entry : Item Line) → slice_get items item ≡ Some entry → Listing now item k
        → Grows path now.table.owners next.table.owners → Lists models (item_instances below path k entry) now.instances next → k' ≡ next_place k entry
        → Listing next (item + 1) k'
    listing-next now next item k k' entry at listing grows lists is =
        let more = item_instances below path k entry in
        let rest = placements_in (drop (item + 1) items) in
        record {
          before = listing.before ++ more;
          lists = Lists-append path listing.before more old now next listing.lists grows lists;
          left = ap (λ n. (listing.before ++ more) ++ instances_by below path n rest) is
              ∙ append_assoc listing.before more (instances_by below path (next_place k entry) rest)
              ∙ ap (λ list. listing.before ++ list)
              (sym (ap (λ its. instances_by below path k (placements_in its)) (drop-at items item entry at)
              ∙ instances-step below path k entry (drop (item + 1) items)))
              ∙ listing.left;
        }

    pub listing-end : (now : Progress) (item k : ℕ) → Listing now item k → length items ≤ item
        → Lists models (path ∷ instances_by below path 0 (placements_in items)) old now
    listing-end now item k listing past =
        let none : drop item items ≡ [] = drop_all item items past in
        let all : listing.before ≡ path ∷ instances_by below path 0 (placements_in items) =
        sym (append-nil listing.before)
        ∙ ap (λ (its : List (Item Line)). listing.before ++ instances_by below path k (placements_in its)) (sym none) ∙ listing.left in
        subst (λ paths. Lists models paths old now) all listing.lists

  -- an instance that is open, with the numbers of all signals that were mentioned
  asked : (owners seen : List Signal) (own : ℕ → Signal) (cells : List ℕ) (start : ℕ)
      → ((i : ℕ) → i < length cells → signal_in owners (get_or cells i 0) ≡ own (start + i))
      → map (λ cell. number_in_list seen (signal_in owners cell)) cells
      ≡ counted_from (λ name. number_in_list seen (own name)) start (length cells)
  asked owners seen own [] start each = refl
  asked owners seen own (cell ∷ cells) start each =
      let here : signal_in owners cell ≡ own start = each 0 (omega arith) ∙ ap own (let same : start + 0 ≡ start = omega arith in same) in
      ap (λ signal. number_in_list seen signal ∷ map (λ c. number_in_list seen (signal_in owners c)) cells) here
      ∙ ap (λ rest. number_in_list seen (own start) ∷ rest)
      (asked owners seen own cells (suc start)
      (λ i lt. each (suc i) (omega arith) ∙ ap own (let same : start + suc i ≡ suc start + i = omega arith in same)))

  one-instance : (table : SignalTable) (instance : Instance) → table.seen ≡ signals mentions models → IsOpened models table.owners instance
      → instance_by table instance ≡ flat_instance mentions models instance.path
  one-instance table instance seen opened =
      let own = owner models instance.path in
      let size : length instance.cells ≡ names_of models (model_at models instance.path) = opened.cells.size ∙ ap (names_of models) opened.model in
      let numbers : map (λ cell. number_in_list table.seen (signal_in table.owners cell)) instance.cells
      ≡ counted_from (λ name. number_in_list (signals mentions models) (own name)) 0 (names_of models (model_at models instance.path)) =
      asked table.owners table.seen own instance.cells 0
      (λ i lt. opened.cells.each i (omega (arith, lt, opened.cells.size)) ∙ ap own (let same : i ≡ 0 + i = omega arith in same))
      ∙ ap (λ s. counted_from (λ name. number_in_list s (own name)) 0 (length instance.cells)) seen
      ∙ ap (counted_from (λ name. number_in_list (signals mentions models) (own name)) 0) size in
      ap (λ (m : ℕ). let one : FlatInstance = record { path = instance.path; model = m; numbers = map (λ cell. number_in_list table.seen (signal_in table.owners cell)) instance.cells } in one) opened.model
      ∙ ap (λ (ns : List (Option ℕ)). let one : FlatInstance = record { path = instance.path; model = model_at models instance.path; numbers = ns } in one) numbers

  all-instances : (table : SignalTable) (added : List Instance) → table.seen ≡ signals mentions models
      → ((instance : Instance) → Among instance added → IsOpened models table.owners instance)
      → map (instance_by table) added ≡ map (flat_instance mentions models) (map (λ (i : Instance). i.path) added)
  all-instances table [] seen opened = refl
  all-instances table (instance ∷ added) seen opened =
      ap (λ (one : FlatInstance). one ∷ map (instance_by table) added) (one-instance table instance seen (opened instance (inl refl)))
      ∙ ap (λ (rest : List FlatInstance). flat_instance mentions models instance.path ∷ rest)
      (all-instances table added seen (λ other there. opened other (inr there)))

  module _ (levels : ℕ) (deepest : levels ≡ DEEPEST) (path : Path) (top : path ≡ []) (old : List Instance) (new : Progress)
      (lists : Lists models (instances_from models levels path) old new) (none : old ≡ []) where
    added-all : new.instances ≡ lists.added
    added-all = lists.is ∙ ap (λ (list : List Instance). list ++ lists.added) none

    pub listed-all : new.table.seen ≡ signals mentions models → map (instance_by new.table) new.instances ≡ map (flat_instance mentions models) (instances models)
    unfolding instances
    listed-all seen =
        ap (map (instance_by new.table)) added-all ∙ all-instances new.table lists.added seen lists.opened
        ∙ ap (map (flat_instance mentions models))
        (lists.paths_are ∙ ap (λ n. instances_from models n path) deepest ∙ ap (instances_from models DEEPEST) top)

    pub cells-all : (instance : Instance) → Among instance new.instances → All (λ cell. cell < length new.table.owners) instance.cells
    cells-all instance there k d lt =
        let opened = lists.opened instance (subst (λ (list : List Instance). Among instance list) added-all there) in
        subst (λ cell. cell < length new.table.owners) (default instance.cells k 0 d lt) (opened.cells.within k (omega (arith, lt, opened.cells.size)))
      where
        default : (xs : List ℕ) (k d e : ℕ) → k < length xs → get_or xs k d ≡ get_or xs k e
        default [] k d e lt = absurd (omega arith)
        default (x ∷ xs) zero d e lt = refl
        default (x ∷ xs) (suc k) d e lt = default xs k d e (omega arith)

    pub small-all : AreSmall (map (instance_by new.table) new.instances)
    small-all found there =
        let by = from_map (instance_by new.table) found new.instances there in
        subst (λ (f : FlatInstance). IsSmall f.path) by.2 (lists.small by.0 (subst (λ (list : List Instance). Among by.0 list) added-all by.1))
