-- What changes in levels of clauses whose literals lie in a pool, and what they stand for then.
use Rattle.std.proofs.Common.{◌≡◌, ◌≢◌, ℕ, zero, suc, ◌+◌, ◌<◌, Bool, true, false, cond, eqb, List, [], ◌∷◌, ◌++◌, ℤ, ◌||◌, ◌&&◌}
use Rattle.std.proofs.Common.{length, get_or, set, map, Option, Some, None, is_some, refl, sym, ap, ◌∙◌, inl, inr, arith}
use Rattle.std.specs.Int.{cast_signed, w32}
use Rattle.std.specs.List.{list_all, remove, slice_get}
use Rattle.std.specs.Ordering.{int_eq}
use Rattle.std.proofs.lemmas.Bool.{cases_eq, false≢true, cond-true, cond-false, eq-eqb, ne_eqb}
use Rattle.std.specs.Option.{option_map}
use Rattle.std.proofs.lemmas.List.{get_or-map, get_or_read, get_or-set_other, length-map, length-set, map-append, map-set}
use Rattle.std.proofs.lemmas.Option.{get_or_from_slice_get, slice_get-get_or, slice_get-map, slice_get_within}
use Rattle.std.proofs.lemmas.List.Sums.{get_or-le-sum_by, sum_by-cons, sum_by-remove, sum_by-set, sum_by_push}
use Rattle.reach_frames.specs.Marks.{is_among, is_part}
use Rattle.reach_frames.specs.Pooled.{clause_in, literals_in, literals_of, stands_in, kept_of, level_of, levels_of, uses_in, uses_of, AreHeldOnce, TakesOut}
use Rattle.reach_frames.specs.declared.level.KeptClause.{KeptClause}
use Rattle.reach_frames.specs.declared.level.Pooled.{Pooled}

abbrev Held : Type 0
Held = ℕ → Option (List ℕ)

-- one where something is held
abbrev as_number : Option (List ℕ) → ℕ
as_number o = cond (is_some o) 1 0

-- one where the ids are the same, else none
abbrev same_id : ℕ → Pooled → ℕ
same_id id pooled = cond (eqb pooled.id id) 1 0

is_one : (id : ℕ) (pooled : Pooled) → pooled.id ≡ id → same_id id pooled ≡ 1
is_one id pooled same = cond-true (eqb pooled.id id) 1 0 (eq-eqb pooled.id id same)

is_none : (id : ℕ) (pooled : Pooled) → (pooled.id ≡ id → ⊥) → same_id id pooled ≡ 0
is_none id pooled other = cond-false (eqb pooled.id id) 1 0 (ne_eqb pooled.id id other)

held_one : (o : Option (List ℕ)) → is_some o ≡ true → as_number o ≡ 1
held_one o live = cond-true (is_some o) 1 0 live

-- an id that stands in levels is live
pub live_by_use : (held : Held) (levels : List (List Pooled)) (id : ℕ) → AreHeldOnce held levels → 0 < uses_of id levels → is_some (held id) ≡ true
live_by_use held levels id once used = live (is_some (held id)) (once id)
  where
    live : (b : Bool) → uses_of id levels ≡ cond b 1 0 → b ≡ true
    live true is = refl
    live false is = absurd (omega (arith, is, used))

pub used_at : (levels : List (List Pooled)) (place index : ℕ) (pooled : Pooled) → place < length levels → index < length (get_or levels place [])
    → pooled ≡ get_or (get_or levels place []) index pooled → 0 < uses_of pooled.id levels
used_at levels place index pooled within inside at =
    let level = get_or levels place [] in
    let here : same_id pooled.id (get_or level index pooled) ≡ 1 = ap (same_id pooled.id) (sym at) ∙ is_one pooled.id pooled refl in
    omega (arith, here, get_or-le-sum_by (same_id pooled.id) level index pooled inside, get_or-le-sum_by (uses_in pooled.id) levels place [] within)

-- levels stand for the same, where each of their ids has what it had
same_level : (held held' : Held) (level : List Pooled) → ((id : ℕ) → 0 < uses_in id level → held' id ≡ held id) → level_of held' level ≡ level_of held level
same_level held held' [] same = refl
same_level held held' (pooled ∷ level) same =
    let here : 0 < uses_in pooled.id (pooled ∷ level) = omega (arith, sum_by-cons (same_id pooled.id) pooled level, is_one pooled.id pooled refl) in
    let kept : kept_of held' pooled ≡ kept_of held pooled = ap (λ (list : Option (List ℕ)). record { clause = literals_in list; witness = pooled.witness }) (same pooled.id here) in
    ap (λ (k : KeptClause). k ∷ level_of held' level) kept
    ∙ ap (λ (ks : List KeptClause). kept_of held pooled ∷ ks)
    (same_level held held' level (λ id used. same id (omega (arith, sum_by-cons (same_id id) pooled level, used))))

pub same_levels : (held held' : Held) (levels : List (List Pooled)) → ((id : ℕ) → 0 < uses_of id levels → held' id ≡ held id) → levels_of held' levels ≡ levels_of held levels
same_levels held held' [] same = refl
same_levels held held' (level ∷ levels) same =
    let here = same_level held held' level (λ id used. same id (omega (arith, sum_by-cons (uses_in id) level levels, used))) in
    ap (λ (l : List KeptClause). l ∷ levels_of held' levels) here
    ∙ ap (λ (ls : List (List KeptClause)). level_of held level ∷ ls)
    (same_levels held held' levels (λ id used. same id (omega (arith, sum_by-cons (uses_in id) level levels, used))))

pub level_at : (held : Held) (levels : List (List Pooled)) (place : ℕ) → place < length levels → get_or (levels_of held levels) place [] ≡ level_of held (get_or levels place [])
level_at held levels place within = get_or-map (level_of held) levels place [] [] within

map-remove : {A B : Type 0} (f : A → B) (xs : List A) (index : ℕ) → map f (remove xs index) ≡ remove (map f xs) index
map-remove f [] zero = refl
map-remove f [] (suc index) = refl
map-remove f (x ∷ xs) zero = refl
map-remove f (x ∷ xs) (suc index) = ap (λ ys. f x ∷ ys) (map-remove f xs index)

-- a clause at the end of a level
abbrev pub pushed : List (List Pooled) → ℕ → Pooled → List (List Pooled)
pushed levels place pooled = set levels place (get_or levels place [] ++ pooled ∷ [])

uses_pushed : (levels : List (List Pooled)) (place id : ℕ) (pooled : Pooled) → place < length levels → uses_of id (pushed levels place pooled) ≡ uses_of id levels + same_id id pooled
uses_pushed levels place id pooled within =
    let level = get_or levels place [] in
    omega (arith, sum_by-set (uses_in id) levels place (level ++ pooled ∷ []) [] within, sum_by_push (same_id id) level pooled)

pub pushed_once : (held held' : Held) (levels : List (List Pooled)) (place : ℕ) (pooled : Pooled) → AreHeldOnce held levels → place < length levels
    → held pooled.id ≡ None → is_some (held' pooled.id) ≡ true → ((other : ℕ) → other ≢ pooled.id → held' other ≡ held other) → AreHeldOnce held' (pushed levels place pooled)
pushed_once held held' levels place pooled once within new live others id =
    elim (cases_eq pooled.id id) [
      | inl same ↦
          let before : uses_of id levels ≡ 0 = once id ∙ ap (λ (q : ℕ). as_number (held q)) (sym same) ∙ ap as_number new in
          let after : as_number (held' id) ≡ 1 = ap (λ (q : ℕ). as_number (held' q)) (sym same) ∙ held_one (held' pooled.id) live in
          omega (arith, uses_pushed levels place id pooled within, is_one id pooled same, before, after)
      | inr other ↦
          let after : as_number (held' id) ≡ as_number (held id) = ap as_number (others id (λ e. other (sym e))) in
          omega (arith, uses_pushed levels place id pooled within, is_none id pooled other, once id, after)
    ]

-- what it stands for, by lists that leave the ones that were there
pub pushed_view : (held held' : Held) (levels : List (List Pooled)) (place : ℕ) (pooled : Pooled) → place < length levels → ((id : ℕ) → 0 < uses_of id levels → held' id ≡ held id)
    → levels_of held' (pushed levels place pooled) ≡ set (levels_of held levels) place (get_or (levels_of held levels) place [] ++ kept_of held' pooled ∷ [])
pushed_view held held' levels place pooled within same =
    let level = get_or levels place [] in
    map-set (level_of held') levels place (level ++ pooled ∷ [])
    ∙ ap (set (levels_of held' levels) place) (map-append (kept_of held') level (pooled ∷ []) ∙ ap (λ (l : List KeptClause). l ++ kept_of held' pooled ∷ []) (sym (level_at held' levels place within)))
    ∙ ap (λ (ls : List (List KeptClause)). set ls place (get_or ls place [] ++ kept_of held' pooled ∷ [])) (same_levels held held' levels same)

-- a clause taken out of a level
abbrev pub cut : List (List Pooled) → ℕ → ℕ → List (List Pooled)
cut levels place index = set levels place (remove (get_or levels place []) index)

uses_cut : (levels : List (List Pooled)) (place index id : ℕ) (pooled : Pooled) → place < length levels → index < length (get_or levels place [])
    → pooled ≡ get_or (get_or levels place []) index pooled → uses_of id (cut levels place index) + same_id id pooled ≡ uses_of id levels
uses_cut levels place index id pooled within inside at =
    let level = get_or levels place [] in
    omega (arith, sum_by-set (uses_in id) levels place (remove level index) [] within, sum_by-remove (same_id id) level index pooled inside, ap (same_id id) at)

-- it stands for the same, by lists that leave the others
pub cut_once : (held held' : Held) (levels : List (List Pooled)) (place index : ℕ) (pooled : Pooled) → AreHeldOnce held levels → place < length levels → index < length (get_or levels place [])
    → pooled ≡ get_or (get_or levels place []) index pooled → TakesOut held held' pooled.id → AreHeldOnce held' (cut levels place index)
cut_once held held' levels place index pooled once within inside at out id =
    let uses = uses_cut levels place index id pooled within inside at in
    elim (cases_eq pooled.id id) [
      | inl same ↦
          let live = live_by_use held levels pooled.id once (used_at levels place index pooled within inside at) in
          let before : uses_of id levels ≡ 1 = once id ∙ ap (λ (q : ℕ). as_number (held q)) (sym same) ∙ held_one (held pooled.id) live in
          let after : as_number (held' id) ≡ 0 = ap (λ (q : ℕ). as_number (held' q)) (sym same) ∙ ap as_number out.gone in
          omega (arith, uses, is_one id pooled same, before, after)
      | inr other ↦
          let after : as_number (held' id) ≡ as_number (held id) = ap as_number (out.others id (λ e. other (sym e))) in
          omega (arith, uses, is_none id pooled other, once id, after)
    ]

pub cut_view : (held : Held) (levels : List (List Pooled)) (place index : ℕ) → place < length levels
    → levels_of held (cut levels place index) ≡ set (levels_of held levels) place (remove (get_or (levels_of held levels) place []) index)
cut_view held levels place index within =
    let level = get_or levels place [] in
    map-set (level_of held) levels place (remove level index)
    ∙ ap (set (levels_of held levels) place) (map-remove (kept_of held) level index ∙ ap (λ (l : List KeptClause). remove l index) (sym (level_at held levels place within)))

pub cut_out_view : (held held' : Held) (levels : List (List Pooled)) (place index : ℕ) (pooled : Pooled) → AreHeldOnce held levels → place < length levels → index < length (get_or levels place [])
    → pooled ≡ get_or (get_or levels place []) index pooled → TakesOut held held' pooled.id
    → levels_of held' (cut levels place index) ≡ set (levels_of held levels) place (remove (get_or (levels_of held levels) place []) index)
cut_out_view held held' levels place index pooled once within inside at out =
    same_levels held held' (cut levels place index) (λ id used. out.others id (λ same. unused id same used))
    ∙ cut_view held levels place index within
  where
    unused : (id : ℕ) → id ≡ pooled.id → 0 < uses_of id (cut levels place index) → ⊥
    unused id same used =
        let now = cut_once held held' levels place index pooled once within inside at out id in
        let after : as_number (held' id) ≡ 0 = ap (λ (q : ℕ). as_number (held' q)) same ∙ ap as_number out.gone in
        omega (arith, now, after, used)

-- a clause with another witness
abbrev pub noted : List (List Pooled) → ℕ → ℕ → Pooled → List (List Pooled)
noted levels place index pooled = set levels place (set (get_or levels place []) index pooled)

pub noted_once : (held : Held) (levels : List (List Pooled)) (place index : ℕ) (pooled other : Pooled) → AreHeldOnce held levels → place < length levels → index < length (get_or levels place [])
    → pooled ≡ get_or (get_or levels place []) index pooled → other.id ≡ pooled.id → AreHeldOnce held (noted levels place index other)
noted_once held levels place index pooled other once within inside at same id =
    let level = get_or levels place [] in
    let here : same_id id other ≡ same_id id (get_or level index pooled) = ap (λ (q : ℕ). cond (eqb q id) 1 0) same ∙ ap (same_id id) at in
    omega (arith, sum_by-set (uses_in id) levels place (set level index other) [] within, sum_by-set (same_id id) level index other pooled inside, here, once id)

pub noted_view : (held : Held) (levels : List (List Pooled)) (place index : ℕ) (pooled : Pooled) → place < length levels
    → levels_of held (noted levels place index pooled) ≡ set (levels_of held levels) place (set (get_or (levels_of held levels) place []) index (kept_of held pooled))
noted_view held levels place index pooled within =
    let level = get_or levels place [] in
    map-set (level_of held) levels place (set level index pooled)
    ∙ ap (set (levels_of held levels) place) (map-set (kept_of held) level index pooled ∙ ap (λ (l : List KeptClause). set l index (kept_of held pooled)) (sym (level_at held levels place within)))

-- a clause that moves to the next level
pub moved_on_once : (held : Held) (levels : List (List Pooled)) (place index : ℕ) (pooled : Pooled) → AreHeldOnce held levels → place + 1 < length levels → index < length (get_or levels place [])
    → pooled ≡ get_or (get_or levels place []) index pooled → AreHeldOnce held (pushed (cut levels place index) (place + 1) pooled)
moved_on_once held levels place index pooled once within inside at id =
    let many = length-set levels place (remove (get_or levels place []) index) in
    omega (arith, uses_pushed (cut levels place index) (place + 1) id pooled (omega (arith, within, many)), uses_cut levels place index id pooled (omega (arith, within)) inside at, once id)

pub moved_on_view : (held : Held) (items : List (List Pooled)) (levels : List (List KeptClause)) (place index : ℕ) (pooled : Pooled) → levels_of held items ≡ levels → place + 1 < length items
    → levels_of held (pushed (cut items place index) (place + 1) pooled)
    ≡ set (set levels place (remove (get_or levels place []) index)) (place + 1) (get_or levels (place + 1) [] ++ kept_of held pooled ∷ [])
moved_on_view held items levels place index pooled view within =
    let left = remove (get_or items place []) index in
    let rest = remove (get_or levels place []) index in
    let many = length-set items place left in
    let cut_is : levels_of held (cut items place index) ≡ set levels place rest =
    cut_view held items place index (omega (arith, within)) ∙ ap (λ (ls : List (List KeptClause)). set ls place (remove (get_or ls place []) index)) view in
    pushed_view held held (cut items place index) (place + 1) pooled (omega (arith, within, many)) (λ id used. refl)
    ∙ ap (λ (ls : List (List KeptClause)). set ls (place + 1) (get_or ls (place + 1) [] ++ kept_of held pooled ∷ [])) cut_is
    ∙ ap (λ (l : List KeptClause). set (set levels place rest) (place + 1) (l ++ kept_of held pooled ∷ []))
    (get_or-set_other levels place (place + 1) rest [] (omega arith))

-- what an id that stands in levels has, where another one is new
pub same_but_new : (held held' : Held) (levels : List (List Pooled)) (new : ℕ) → AreHeldOnce held levels → held new ≡ None → ((other : ℕ) → other ≢ new → held' other ≡ held other)
    → (id : ℕ) → 0 < uses_of id levels → held' id ≡ held id
same_but_new held held' levels new once none others = λ id used. others id (λ same. false≢true (sym (ap is_some (ap held same ∙ none)) ∙ live_by_use held levels id once used))

-- the places of levels, by those of what they stand for
pub place_in : (held : Held) (items : List (List Pooled)) (levels : List (List KeptClause)) (place : ℕ) → levels_of held items ≡ levels → place < length levels → place < length items
place_in held items levels place view within = omega (arith, within, ap length view, length-map items (level_of held))

pub index_in : (held : Held) (items : List (List Pooled)) (levels : List (List KeptClause)) (place index : ℕ) → levels_of held items ≡ levels → place < length levels
    → index < length (get_or levels place []) → index < length (get_or items place [])
index_in held items levels place index view within inside =
    let here = place_in held items levels place view within in
    omega (arith, inside, ap (λ (ls : List (List KeptClause)). length (get_or ls place [])) view, ap length (level_at held items place here), length-map (get_or items place []) (kept_of held))

pub kept_here : (held : Held) (items : List (List Pooled)) (levels : List (List KeptClause)) (place index : ℕ) (pooled : Pooled) → levels_of held items ≡ levels → place < length levels
    → index < length (get_or levels place []) → pooled ≡ get_or (get_or items place []) index pooled → slice_get (get_or levels place []) index ≡ Some (kept_of held pooled)
kept_here held items levels place index pooled view within inside at =
    let level = get_or items place [] in
    ap (λ (ls : List (List KeptClause)). slice_get (get_or ls place []) index) (sym view)
    ∙ ap (λ (l : List KeptClause). slice_get l index) (level_at held items place (place_in held items levels place view within))
    ∙ slice_get-map (kept_of held) level index
    ∙ ap (option_map (kept_of held)) (slice_get-get_or level index pooled (index_in held items levels place index view within inside) ∙ ap Some (sym at))

pub clause_in_is : (levels : List (List KeptClause)) (place index : ℕ) (kept : KeptClause) → slice_get (get_or levels place []) index ≡ Some kept → clause_in levels place index ≡ kept.clause
clause_in_is levels place index kept at =
    let level = get_or levels place [] in
    get_or-map (λ (k : KeptClause). k.clause) level index kept [] (slice_get_within level index kept at)
    ∙ ap (λ (k : KeptClause). k.clause) (get_or_from_slice_get level index kept kept at)

pub clause_here : (held : Held) (items : List (List Pooled)) (levels : List (List KeptClause)) (place index : ℕ) (pooled : Pooled) (words : List ℕ) → levels_of held items ≡ levels → place < length levels
    → index < length (get_or levels place []) → pooled ≡ get_or (get_or items place []) index pooled → held pooled.id ≡ Some words → literals_of words ≡ clause_in levels place index
clause_here held items levels place index pooled words view within inside at is =
    sym (clause_in_is levels place index (kept_of held pooled) (kept_here held items levels place index pooled view within inside at) ∙ ap literals_in is)

-- what is read of a level
pub read_level : (items : List (List Pooled)) (place : ℕ) (level : List Pooled) → place < length items → level ≡ get_or items place level → level ≡ get_or items place []
read_level items place level within is = get_or_read items place level within is []

-- parts by words
among_words : (words : List ℕ) (literal : ℤ) → is_among (literals_of words) literal ≡ stands_in words literal
among_words [] literal = refl
among_words (word ∷ words) literal = ap (λ b. int_eq (cast_signed w32 word) literal || b) (among_words words literal)

pub part_of_words : (clause : List ℤ) (words : List ℕ) → is_part clause (literals_of words) ≡ list_all (stands_in words) clause
part_of_words [] words = refl
part_of_words (literal ∷ clause) words =
    ap (λ b. b && is_part clause (literals_of words)) (among_words words literal)
    ∙ ap (λ b. stands_in words literal && b) (part_of_words clause words)
