-- The times of samples, read again where each begins.
use Rattle.std.proofs.Common.{◌≡◌, ℕ, suc, Bool, true, false, not, cond, List, [], ◌∷◌, ◌++◌, map, drop, take, Option, None, Some, refl, sym, ap, ◌∙◌}
use Rattle.std.proofs.lemmas.List.Sums.{fold_push}
use Rattle.std.specs.Option.{option_map, option_to_list, unwrap_or}
use Rattle.psl_base.proofs.Placing.{rest_after}
use Rattle.psl_base.specs.Bytes.{is_white}
use Rattle.psl_base.specs.Tokens.{PlacedToken, token_at, begins_token, onto_first, tokens_from, tokens}
use Rattle.vcd_reader.specs.declared.shape.Shape.{Shape}
use Rattle.vcd_reader.specs.declared.shape.Shape.TheVariants.{Time, Scalar}
use Rattle.vcd_reader.proofs.Holding.{equal_last}
use Rattle.vcd_reader.proofs.Starting.{begun, offsets}
use Rattle.vcd_reader.proofs.Telling.{told_in}
use Rattle.vcd_reader.specs.Beginnings.{is_further, begins_sample}
use Rattle.vcd_reader.specs.Declarations.{Declared, signal_at}
use Rattle.vcd_reader.specs.Events.{Event, At, Gets, is_last, times_after, times_of}
use Rattle.vcd_reader.specs.Labels.{place_of}
use Rattle.vcd_reader.specs.Meaning.{begins_after, events_after}
use Rattle.vcd_reader.specs.Rows.{first_time, time_at}
use Rattle.vcd_reader.specs.Rules.{of_time}
use Rattle.vcd_reader.specs.Shapes.{shape_of}
use Rattle.vcd_reader.specs.Standing.{Told, Part, Defining, Telling, Open, Ready, WantsDefinitionsEnd, WantsVectorCode, Standing, at_first, standing_after, standing_by, part_after, change_of, event_of, told_by, told_event, told_time, time_of}

-- ---- what is read behind the bytes before a token

abbrev texts : List PlacedToken → List (List ℕ)
texts ts = map (λ (t : PlacedToken). t.text) ts

same_onto : (one other : List ℕ) (at place b : ℕ) (ts us : List PlacedToken) → texts ts ≡ texts us → texts (onto_first one at b ts) ≡ texts (onto_first other place b us)
same_onto one other at place b [] [] same = refl
same_onto one other at place b [] (u ∷ us) same = absurd (let wrong : [] ≡ u.text ∷ texts us = same in cc)
same_onto one other at place b (t ∷ ts) [] same = absurd (let wrong : t.text ∷ texts ts ≡ [] = same in cc)
same_onto one other at place b (t ∷ ts) (u ∷ us) same = let all : t.text ∷ texts ts ≡ u.text ∷ texts us = same in cc

same_byte : (one other : List ℕ) (at place b : ℕ) (ts us : List PlacedToken) (white begins : Bool) → texts ts ≡ texts us →
    texts (cond white ts (cond begins (onto_first one at b ts) (token_at one at (b ∷ []) ∷ ts))) ≡ texts (cond white us (cond begins (onto_first other place b us) (token_at other place (b ∷ []) ∷ us)))
same_byte one other at place b ts us true begins same = same
same_byte one other at place b ts us false true same = same_onto one other at place b ts us same
same_byte one other at place b ts us false false same = ap (λ (rest : List (List ℕ)). (b ∷ []) ∷ rest) same

-- the texts of tokens do not depend on what stands before them
same_texts : (one other : List ℕ) (at place : ℕ) (bs : List ℕ) → texts (tokens_from one at bs) ≡ texts (tokens_from other place bs)
same_texts one other at place [] = refl
same_texts one other at place (b ∷ bs) =
    same_byte one other at place b (tokens_from one (suc at) bs) (tokens_from other (suc place) bs) (is_white b) (begins_token bs) (same_texts one other (suc at) (suc place) bs)

same_time : (ts us : List PlacedToken) → texts ts ≡ texts us → first_time ts ≡ first_time us
same_time [] [] same = refl
same_time [] (u ∷ us) same = absurd (let wrong : [] ≡ u.text ∷ texts us = same in cc)
same_time (t ∷ ts) [] same = absurd (let wrong : t.text ∷ texts ts ≡ [] = same in cc)
same_time (t ∷ ts) (u ∷ us) same = let all : t.text ∷ texts ts ≡ u.text ∷ texts us = same in let first : t.text ≡ u.text = cc in ap (λ text. unwrap_or (time_of text) 0) first

-- what each token lists is listed where it begins
abbrev AreListed : List ℕ → List PlacedToken → Type 0
AreListed bytes [] = Unit {0}
AreListed bytes (t ∷ ts) = (time_at bytes t.at ≡ unwrap_or (time_of t.text) 0) × AreListed bytes ts

listed_byte : (bytes : List ℕ) (at b : ℕ) (ts : List PlacedToken) (white begins : Bool) → time_at bytes at ≡ first_time (cond white ts (cond begins (onto_first bytes at b ts) (token_at bytes at (b ∷ []) ∷ ts))) → AreListed bytes ts →
    AreListed bytes (cond white ts (cond begins (onto_first bytes at b ts) (token_at bytes at (b ∷ []) ∷ ts)))
listed_byte bytes at b ts true begins here listed = listed
listed_byte bytes at b [] false true here listed = tt
listed_byte bytes at b (t ∷ ts) false true here listed = (here, listed.1)
listed_byte bytes at b ts false false here listed = (here, listed)

listed_from : (bytes : List ℕ) (at : ℕ) (bs : List ℕ) → drop at bytes ≡ bs → AreListed bytes (tokens_from bytes at bs)
listed_from bytes at [] here = tt
listed_from bytes at (b ∷ bs) here =
    let first : time_at bytes at ≡ first_time (tokens_from bytes at (drop at bytes)) =
    same_time (tokens (drop at bytes)) (tokens_from bytes at (drop at bytes)) (same_texts (drop at bytes) bytes 0 at (drop at bytes)) in
    listed_byte bytes at b (tokens_from bytes (suc at) bs) (is_white b) (begins_token bs) (first ∙ ap (λ (rest : List ℕ). first_time (tokens_from bytes at rest)) here)
    (listed_from bytes (suc at) bs (rest_after bytes bs b at here))

-- ---- a token's time, where a sample begins with it

by_last : (last : Option ℕ) (time : ℕ) (es : List Event) (same : Bool) → (same ≡ true → last ≡ Some time) →
    cond same (times_after last es) (time ∷ times_after (Some time) es) ≡ cond (not same) (time ∷ times_after (Some time) es) (times_after (Some time) es)
by_last last time es true equal = ap (λ (o : Option ℕ). times_after o es) (equal refl)
by_last last time es false equal = refl

by_time : (told : Told) (time : Option ℕ) (es : List Event) → times_after told.last (option_to_list (option_map At time) ++ es) ≡ cond (is_further told time) (unwrap_or time 0 ∷ times_after (told_time told time).last es) (times_after (told_time told time).last es)
by_time told None es = refl
by_time told (Some time) es = by_last told.last time es (is_last told.last time) (equal_last told.last time)

by_unread : (last : Option ℕ) (number : ℕ) (value : List ℕ) (es : List Event) (unread : Bool) → times_after last (option_to_list (cond unread None (Some (Gets number value))) ++ es) ≡ times_after last es
by_unread last number value es true = refl
by_unread last number value es false = refl

-- a change lists no time
by_change : (last : Option ℕ) (d : Declared) (value : List ℕ) (es : List Event) (place : Option ℕ) → times_after last (option_to_list (change_of d value place) ++ es) ≡ times_after last es
by_change last d value es None = refl
by_change last d value es (Some number) = by_unread last number value es (signal_at d number).unread

by_shape : (d : Declared) (told : Told) (shape : Shape) (text : List ℕ) (es : List Event) → times_after told.last (option_to_list (told_event d shape text) ++ es) ≡
    cond (of_time (is_further told) shape text) (unwrap_or (time_of text) 0 ∷ times_after (told_by told shape text).last es) (times_after (told_by told shape text).last es)
by_shape d told Time text es = by_time told (time_of text) es
by_shape d told Scalar text es = by_change told.last d (take 1 text) es (place_of d.codes (drop 1 text))
by_shape d told shape text es = refl

by_token : (d : Declared) (p : Part) (o : Open) (text : List ℕ) (es : List Event) → times_after (told_in p).last (option_to_list (event_of d p o text) ++ es) ≡
    cond (begins_sample p o text) (unwrap_or (time_of text) 0 ∷ times_after (told_in (part_after p o text)).last es) (times_after (told_in (part_after p o text)).last es)
by_token d (Telling told) Ready text es = by_shape d told (shape_of text) text es
by_token d (Telling told) (WantsVectorCode start value) text es = by_change told.last d value es (place_of d.codes text)
by_token d (Telling told) o text es = refl
by_token d Defining WantsDefinitionsEnd text es = refl
by_token d Defining o text es = refl

-- ---- all times

one_more : (bytes : List ℕ) (begins : Bool) (t : PlacedToken) (times : List ℕ) (later : List PlacedToken) → time_at bytes t.at ≡ unwrap_or (time_of t.text) 0 → times ≡ map (time_at bytes) (offsets later) →
    cond begins (unwrap_or (time_of t.text) 0 ∷ times) times ≡ map (time_at bytes) (offsets (cond begins (t ∷ later) later))
one_more bytes true t times later here rest = ap (λ (time : ℕ). time ∷ times) (sym here) ∙ ap (λ (all : List ℕ). time_at bytes t.at ∷ all) rest
one_more bytes false t times later here rest = rest

times-begun : (bytes : List ℕ) (before ts : List PlacedToken) → AreListed bytes ts →
    times_after (told_in (standing_by before).part).last (events_after before ts) ≡ map (time_at bytes) (offsets (begun (standing_by before).part (standing_by before).opened ts))
times-begun bytes before [] listed = refl
times-begun bytes before (t ∷ ts) listed =
    let standing = standing_by before in
    let after = standing_after standing t in
    let events = events_after (before ++ t ∷ []) ts in
    let next : standing_by (before ++ t ∷ []) ≡ after = fold_push standing_after at_first before t in
    by_token standing.declared standing.part standing.opened t.text events
    ∙ one_more bytes (begins_after standing t) t (times_after (told_in after.part).last events) (begun after.part after.opened ts) listed.0
    (ap (λ (s : Standing). times_after (told_in s.part).last events) (sym next) ∙ times-begun bytes (before ++ t ∷ []) ts listed.1
    ∙ ap (λ (s : Standing). map (time_at bytes) (offsets (begun s.part s.opened ts))) next)

-- the times of a text are those that are listed where its samples begin
pub times-kept : (bytes : List ℕ) → times_of (events_after [] (tokens bytes)) ≡ map (time_at bytes) (offsets (begun Defining Ready (tokens bytes)))
times-kept bytes = times-begun bytes [] (tokens bytes) (listed_from bytes 0 bytes refl)
