-- The map of a pool's lists, as its slots give it.
use Rattle.std.proofs.Common.{◌≡◌, ◌≢◌, ℕ, suc, zero, ◌+◌, ◌<◌, ◌≤◌, List, [], ◌∷◌, Option, Some, None, is_some, length, map, slice_index_or, cond, sym, ap, ◌∙◌, arith, rules}
use Rattle.std.specs.Ordering.{nat_cmp, is_eq}
use Rattle.std.specs.declared.cmp.Ordering.TheVariants.{Less, Equal, Greater}
use Rattle.std.specs.Cmp.{nat_cmp_total}
use Rattle.std.specs.List.{sum_by}
use Rattle.std.specs.FinMap.{FinMap, empty, get, insert, remove, len, entries, find, put, get-empty, len-empty, len-insert, entries-insert, get-entries, len-entries, gets, same_map, nat_cmp-IsAntisymmetric}
use Rattle.std.specs.FinMap.Entries.{by_order}
use Rattle.std.proofs.lemmas.Option.{none-some}
use Rattle.std.proofs.lemmas.List.{nil_from_length}
use Rattle.std.proofs.lemmas.List.Sums.{sum_by-cons}
use Rattle.word_pool.specs.declared.runs.Run.{Run}
use Rattle.word_pool.specs.Region.{total_length}
use Rattle.word_pool.specs.Layout.{run_at, slot_length, offset_of, length_of, list_in, lists_from, run_words, slots_length, live_slots}
use Rattle.word_pool.proofs.Slots.{length-run_words}
use Rattle.word_pool.proofs.Marking.{for_each_id}

abbrev Map : Type 0
Map = FinMap nat_cmp (List ℕ)

entries_length : List (ℕ × List ℕ) → ℕ
entries_length es = sum_by (λ words. length words) (map (λ e. e.1) es)

put_length : (k : ℕ) (v : List ℕ) (es : List (ℕ × List ℕ)) → find nat_cmp k es ≡ None → entries_length (put nat_cmp k v es) ≡ length v + entries_length es
unfolding entries_length
put_length k v [] none = sum_by-cons (λ words. length words) v []
put_length k v (e ∷ es) none =
    elim (nat_cmp k e.0) as (λ o. cond (is_eq o) (Some e.1) (find nat_cmp k es) ≡ None
    → entries_length (by_order o ((k, v) ∷ e ∷ es) ((e.0, v) ∷ es) (e ∷ put nat_cmp k v es)) ≡ length v + entries_length (e ∷ es)) [
      | Less ↦ λ none. sum_by-cons (λ words. length words) v (map (λ e. e.1) (e ∷ es))
      | Equal ↦ λ none. absurd (none-some e.1 (sym none))
      | Greater ↦ λ none. omega (arith, put_length k v es none, sum_by-cons (λ words. length words) e.1 (map (λ e. e.1) es), sum_by-cons (λ words. length words) e.1 (map (λ e. e.1) (put nat_cmp k v es)))
    ] none

-- a new list
pub total_length-insert : (lists : Map) (id : ℕ) (words : List ℕ) → get lists id ≡ None → total_length (insert lists id words) ≡ length words + total_length lists
unfolding total_length entries_length
total_length-insert lists id words none =
    ap entries_length (entries-insert nat_cmp_total lists id words) ∙ put_length id words (entries lists) (sym (get-entries lists id) ∙ none)

abbrev no_lists : Map
no_lists = empty

pub total_length-empty : total_length empty ≡ 0
unfolding total_length entries_length
total_length-empty = let none : entries no_lists ≡ [] = nil_from_length (entries no_lists) (sym (len-entries no_lists) ∙ len-empty nat_cmp (List ℕ)) in ap entries_length none

-- a map after a change: at the id, and at another
pub get_insert_same : (lists : Map) (id : ℕ) (words : List ℕ) → get (insert lists id words) id ≡ Some words
get_insert_same lists id words = grind (gets, rules)

pub get_insert_other : (lists : Map) (id q : ℕ) (words : List ℕ) → q ≢ id → get (insert lists id words) q ≡ get lists q
get_insert_other lists id q words ne = grind (gets, rules)

get_before : (words : List ℕ) (first : ℕ) (slots : List (Option Run)) (id : ℕ) → id < first → get (lists_from words first slots) id ≡ None
get_before words first [] id lt = get-empty nat_cmp id
get_before words first (None ∷ slots) id lt = get_before words (suc first) slots id (omega arith)
get_before words first (Some run ∷ slots) id lt =
    get_insert_other (lists_from words (suc first) slots) first id (run_words words run) (λ e. omega arith) ∙ get_before words (suc first) slots id (omega arith)

get_at : (words : List ℕ) (first : ℕ) (slots : List (Option Run)) (k : ℕ) → get (lists_from words first slots) (first + k) ≡ list_in words (slice_index_or slots k None)
get_at words first [] k = get-empty nat_cmp (first + k)
get_at words first (None ∷ slots) zero = get_before words (suc first) slots (first + 0) (omega arith)
get_at words first (None ∷ slots) (suc k) =
    let place : first + suc k ≡ suc first + k = omega arith in
    ap (λ q. get (lists_from words (suc first) slots) q) place ∙ get_at words (suc first) slots k
get_at words first (Some run ∷ slots) zero =
    let place : first + 0 ≡ first = omega arith in
    ap (λ q. get (insert (lists_from words (suc first) slots) first (run_words words run)) q) place ∙ get_insert_same (lists_from words (suc first) slots) first (run_words words run)
get_at words first (Some run ∷ slots) (suc k) =
    let place : first + suc k ≡ suc first + k = omega arith in
    get_insert_other (lists_from words (suc first) slots) first (first + suc k) (run_words words run) (λ e. omega arith)
    ∙ ap (λ q. get (lists_from words (suc first) slots) q) place ∙ get_at words (suc first) slots k

-- the list of an id is that of its slot
pub get_list : (words : List ℕ) (slots : List (Option Run)) (id : ℕ) → get (lists_from words 0 slots) id ≡ list_in words (run_at slots id)
get_list words slots id =
    let place : id ≡ 0 + id = omega arith in
    ap (λ q. get (lists_from words 0 slots) q) place ∙ get_at words 0 slots id

-- there are as many lists as slots with a run
pub len_lists : (words : List ℕ) (first : ℕ) (slots : List (Option Run)) → len (lists_from words first slots) ≡ live_slots slots
unfolding live_slots
len_lists words first [] = len-empty nat_cmp (List ℕ)
len_lists words first (None ∷ slots) = omega (arith, len_lists words (suc first) slots, sum_by-cons (λ (slot : Option Run). cond (is_some slot) 1 0) None slots)
len_lists words first (Some run ∷ slots) =
    let rest = lists_from words (suc first) slots in
    let new : get rest first ≡ None = get_before words (suc first) slots first (omega arith) in
    let one_more : len (insert rest first (run_words words run)) ≡ len rest + 1 =
    len-insert nat_cmp_total rest first (run_words words run) ∙ ap (λ o. cond (is_some o) (len rest) (len rest + 1)) new in
    omega (arith, len_lists words (suc first) slots, sum_by-cons (λ (slot : Option Run). cond (is_some slot) 1 0) (Some run) slots)

-- the lists have as many words as the slots
pub total_lists : (words : List ℕ) (first : ℕ) (slots : List (Option Run)) → ((k : ℕ) → offset_of slots k + length_of slots k ≤ length words)
    → total_length (lists_from words first slots) ≡ slots_length slots
unfolding slots_length
total_lists words first [] within = total_length-empty
total_lists words first (None ∷ slots) within = omega (arith, total_lists words (suc first) slots (λ k. within (suc k)), sum_by-cons slot_length None slots)
total_lists words first (Some run ∷ slots) within =
    let rest = lists_from words (suc first) slots in
    let new : get rest first ≡ None = get_before words (suc first) slots first (omega arith) in
    let longer : total_length (insert rest first (run_words words run)) ≡ length (run_words words run) + total_length rest = total_length-insert rest first (run_words words run) new in
    omega (arith, total_lists words (suc first) slots (λ k. within (suc k)), length-run_words words run (within 0), sum_by-cons slot_length (Some run) slots)

-- slots with the same lists give the same map
pub same_lists : (words words' : List ℕ) (slots slots' : List (Option Run)) → ((id : ℕ) → list_in words' (run_at slots' id) ≡ list_in words (run_at slots id))
    → lists_from words' 0 slots' ≡ lists_from words 0 slots
same_lists words words' slots slots' same = same_map nat_cmp_total nat_cmp-IsAntisymmetric (lists_from words' 0 slots') (lists_from words 0 slots)
    (λ q. get_list words' slots' q ∙ same q ∙ sym (get_list words slots q))

-- a slot is given a list
pub lists-insert : (words words' : List ℕ) (slots slots' : List (Option Run)) (id : ℕ) (list : List ℕ) → list_in words' (run_at slots' id) ≡ Some list
    → ((other : ℕ) → other ≢ id → list_in words' (run_at slots' other) ≡ list_in words (run_at slots other))
    → lists_from words' 0 slots' ≡ insert (lists_from words 0 slots) id list
lists-insert words words' slots slots' id list here others =
    same_map nat_cmp_total nat_cmp-IsAntisymmetric (lists_from words' 0 slots') (insert (lists_from words 0 slots) id list)
    (λ q. get_list words' slots' q ∙ for_each_id (λ q. list_in words' (run_at slots' q) ≡ get (insert (lists_from words 0 slots) id list) q) id
    (here ∙ sym (get_insert_same (lists_from words 0 slots) id list))
    (λ q ne. others q ne ∙ sym (get_list words slots q) ∙ sym (get_insert_other (lists_from words 0 slots) id q list ne)) q)

pub get_remove_same : (lists : Map) (id : ℕ) → get (remove lists id) id ≡ None
get_remove_same lists id = grind (gets, rules)

pub get_remove_other : (lists : Map) (id q : ℕ) → q ≢ id → get (remove lists id) q ≡ get lists q
get_remove_other lists id q ne = grind (gets, rules)

-- a slot loses its list
pub lists-remove : (words words' : List ℕ) (slots slots' : List (Option Run)) (id : ℕ) → run_at slots' id ≡ None
    → ((other : ℕ) → other ≢ id → list_in words' (run_at slots' other) ≡ list_in words (run_at slots other))
    → lists_from words' 0 slots' ≡ remove (lists_from words 0 slots) id
lists-remove words words' slots slots' id here others =
    same_map nat_cmp_total nat_cmp-IsAntisymmetric (lists_from words' 0 slots') (remove (lists_from words 0 slots) id)
    (λ q. get_list words' slots' q ∙ for_each_id (λ q. list_in words' (run_at slots' q) ≡ get (remove (lists_from words 0 slots) id) q) id
    (ap (list_in words') here ∙ sym (get_remove_same (lists_from words 0 slots) id))
    (λ q ne. others q ne ∙ sym (get_list words slots q) ∙ sym (get_remove_other (lists_from words 0 slots) id q ne)) q)
