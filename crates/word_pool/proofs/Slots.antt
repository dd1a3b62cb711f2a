-- The slots of a pool: their sums, and the words of a run.
use Rattle.std.proofs.Common.{◌≡◌, ℕ, ◌+◌, ◌-◌, ◌<◌, ◌≤◌, List, Option, Some, None, is_some, length, take, drop, slice_index, cond, refl, sym, ap, ◌∙◌, arith}
use Rattle.std.proofs.lemmas.Bool.{false≢true}
use Rattle.std.proofs.lemmas.List.{ext_get_or, get_or-take, get_or-drop, length-drop, length-take-le}
use Rattle.word_pool.specs.declared.runs.Run.{Run}
use Rattle.word_pool.specs.Layout.{run_at, slot_offset, slot_length, offset_of, length_of, list_in, run_words, slots_length, live_slots, IsLaidOut}
use Rattle.word_pool.specs.Marks.{HasLengthsOf}
use Rattle.word_pool.proofs.Sliding.{sum_by_same}

pub slots_length_same : {before after : List (Option Run)} → HasLengthsOf before after → slots_length after ≡ slots_length before
unfolding slots_length
slots_length_same {before = before} {after = after} h = sum_by_same slot_length slot_length after before None h.size (λ id _. h.lengths id)

pub live_slots_same : {before after : List (Option Run)} → HasLengthsOf before after → live_slots after ≡ live_slots before
unfolding live_slots
live_slots_same {before = before} {after = after} h =
    sum_by_same (λ slot. cond (is_some slot) 1 0) (λ slot. cond (is_some slot) 1 0) after before None h.size (λ id _. ap (λ b. cond b 1 0) (h.live id))

pub length-run_words : (words : List ℕ) (run : Run) → run.offset + run.length ≤ length words → length (run_words words run) ≡ run.length
length-run_words words run within =
    let left : length (drop run.offset words) ≡ length words - run.offset = length-drop run.offset words in
    length-take-le run.length (drop run.offset words) (omega arith)

pub word_of_run : (words : List ℕ) (run : Run) (k : ℕ) → k < run.length → slice_index (run_words words run) k ≡ slice_index words (run.offset + k)
word_of_run words run k lt = get_or-take run.length (drop run.offset words) k 0 lt ∙ get_or-drop run.offset words k 0

-- two slots with the same words have the same list
pub list_in_same : (words words' : List ℕ) (slot slot' : Option Run) → is_some slot' ≡ is_some slot → slot_length slot' ≡ slot_length slot
    → slot_offset slot + slot_length slot ≤ length words → slot_offset slot' + slot_length slot' ≤ length words'
    → ((k : ℕ) → k < slot_length slot → slice_index words' (slot_offset slot' + k) ≡ slice_index words (slot_offset slot + k))
    → list_in words' slot' ≡ list_in words slot
list_in_same words words' None None live len within within' same = refl
list_in_same words words' None (Some run') live len within within' same = absurd (false≢true (sym live))
list_in_same words words' (Some run) None live len within within' same = absurd (false≢true live)
list_in_same words words' (Some run) (Some run') live len within within' same =
    let size : length (run_words words run) ≡ run.length = length-run_words words run within in
    let size' : length (run_words words' run') ≡ run'.length = length-run_words words' run' within' in
    ap Some (ext_get_or 0 (run_words words' run') (run_words words run) (size' ∙ len ∙ sym size)
    (λ k lt. word_of_run words' run' k (omega arith) ∙ same k (omega arith) ∙ sym (word_of_run words run k (omega arith))))

-- the lists after the runs are moved together
pub moved_lists : {words : List ℕ} {slots slots' : List (Option Run)} (words' : List ℕ) (end : ℕ) → IsLaidOut words slots → IsLaidOut (take end words') slots' → end ≤ length words'
    → HasLengthsOf slots slots' → ((id k : ℕ) → k < length_of slots id → slice_index words' (offset_of slots' id + k) ≡ slice_index words (offset_of slots id + k))
    → (id : ℕ) → list_in (take end words') (run_at slots' id) ≡ list_in words (run_at slots id)
moved_lists {words = words} {slots = slots} {slots' = slots'} words' end laid laid' within h same id =
    let size : length (take end words') ≡ end = length-take-le end words' within in
    list_in_same words (take end words') (run_at slots id) (run_at slots' id) (h.live id) (h.lengths id) (laid.within id) (laid'.within id)
    (λ k lt. get_or-take end words' (offset_of slots' id + k) 0 (omega (arith, laid'.within id, h.lengths id)) ∙ same id k lt)
