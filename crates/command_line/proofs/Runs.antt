-- What `clap` makes of words, one word after the other.
use Rattle.std.proofs.Common.{◌≡◌, ◌∙◌, refl, ap, ap₂, ℕ, false, ◌==◌, List, [], ◌∷◌, None, is_some}
use Rattle.std.specs.Prelude.{fold}
use Rattle.std.specs.Str.{bytes_eq}
use Rattle.std.proofs.lemmas.Bool.{ne_eqb}
use Rattle.clap.specs.Faults.{check_fault, defaults_fault, entered_fault, settle_fault, step_fault, turn_fault, walk_fault}
use Rattle.clap.specs.Kinds.{Kinds, or_else}
use Rattle.clap.specs.Lexer.{strip_byte}
use Rattle.clap.specs.Simple.{App, Shape, built, entered}
use Rattle.clap.specs.Walk.{Held, Rule, Walk, after_step, arg_by_id, finished, first_of, nothing_held, option_word, settled, walk_from, walked}
use Rattle.clap.specs.Walk.Step.{next, value}
use Rattle.clap.specs.Walk.Waiting.{idle, option}
use Rattle.clap.specs.Walk as walk
use Rattle.command_line.specs.Clap.{Takes, app, given}
use Rattle.command_line.specs.Kinds.{app_of, name_of}
use Rattle.command_line.specs.Plain.{IsPlain}
use Rattle.command_line.specs.declared.kinds.Kind.{Kind}

-- ---- one word

no_hyphen : (word : List ℕ) → IsPlain word → strip_byte 45 word ≡ None
no_hyphen [] plain = refl
no_hyphen (x ∷ xs) plain = let other : (x == 45) ≡ false = ne_eqb x 45 plain in rw other refl

no_dashes : (word : List ℕ) → IsPlain word → bytes_eq word (45 ∷ 45 ∷ []) ≡ false
no_dashes [] plain = refl
no_dashes (x ∷ xs) plain = let other : (x == 45) ≡ false = ne_eqb x 45 plain in rw other refl

-- between two words, where neither `--` nor a subcommand was met
abbrev between : Held → walk.Waiting → ℕ → Walk
between held waiting position = record { held = held; waiting = waiting; position = position; is_trailing = false; stopped = None }

-- a word that does not begin with a hyphen goes to the next positional ..
pub plain_walked : (rules : List Rule) (held : Held) (position : ℕ) (word : List ℕ) → IsPlain word
    → walked rules [] (between held idle position) word ≡ after_step rules word (between held idle position) held value
unfolding walked
plain_walked rules held position word plain = simp (no_hyphen word plain, no_dashes word plain)

pub plain_fault : (shape : Shape) (held : Held) (position : ℕ) (word : List ℕ) → IsPlain word
    → turn_fault shape [] (between held idle position) word ≡ step_fault shape position held value
unfolding walked
plain_fault shape held position word plain = simp (no_hyphen word plain, no_dashes word plain)

-- .. or to the option that waits for it
abbrev pub taken_by : List Rule → Held → ℕ → List ℕ → List ℕ → Walk
taken_by rules held position id word =
    let met = option_word (arg_by_id rules id) id word held in
    after_step rules word (between held (option id) position) met.0 (next met.1)

pub value_walked : (rules : List Rule) (held : Held) (position : ℕ) (id word : List ℕ) → IsPlain word
    → walked rules [] (between held (option id) position) word ≡ taken_by rules held position id word
unfolding walked
value_walked rules held position id word plain = simp (no_hyphen word plain, no_dashes word plain)

pub value_fault : (shape : Shape) (held : Held) (position : ℕ) (id word : List ℕ) → IsPlain word
    → turn_fault shape [] (between held (option id) position) word ≡ []
unfolding walked
value_fault shape held position id word plain = simp (no_hyphen word plain, no_dashes word plain)

-- ---- all words

-- the words lead from one state to another, without a fault
pub Runs : Shape → Walk → List (List ℕ) → Walk → Type 0
Runs shape start [] end = start ≡ end
Runs shape start (word ∷ words) end =
    (mid : Walk) × (turn_fault shape [] start word ≡ []) × (walked shape.rules [] start word ≡ mid) × Runs shape mid words end

run_fault : (shape : Shape) (start end : Walk) (words : List (List ℕ)) → Runs shape start words end → walk_fault shape [] start words ≡ []
unfolding Runs walk_fault
run_fault shape start end [] run = refl
run_fault shape start end (word ∷ words) run =
    ap₂ or_else run.1 (ap (λ (w : Walk). walk_fault shape [] w words) run.2 ∙ run_fault shape run.0 end words run.3)

run_walk : (shape : Shape) (start end : Walk) (words : List (List ℕ)) → Runs shape start words end → fold (walked shape.rules []) start words ≡ end
unfolding Runs
run_walk shape start end [] run = run
run_walk shape start end (word ∷ words) run =
    ap (λ (w : Walk). fold (walked shape.rules []) w words) run.2 ∙ run_walk shape run.0 end words run.3

-- the faults that are found behind the last word
abbrev pub end_fault : App → Walk → Kinds
end_fault a end =
    or_else (entered_fault a end.stopped) (or_else (settle_fault a.top.rules a.top.args_override_self end.held)
    (or_else (defaults_fault (settled a.top.rules end.held).rows a.top.rules)
    (check_fault a.top (finished a.top.rules end.held) (is_some (entered a end.stopped)))))

abbrev pub shape_of : Kind → Shape
shape_of kind = (built (app_of kind)).top

abbrev pub start : Walk
start = walk_from nothing_held

-- `clap` takes words that lead to an end without a fault ..
pub run_taken : (kind : Kind) (words : List (List ℕ)) (end : Walk) → Runs (shape_of kind) start words end → end_fault (built (app_of kind)) end ≡ []
    → Takes (app_of kind) (name_of kind ∷ words)
unfolding Takes app
run_taken kind words end run ended =
    ap₂ or_else (run_fault (shape_of kind) start end words run) (ap (end_fault (built (app_of kind))) (run_walk (shape_of kind) start end words run)) ∙ ended

-- .. and finds there what they give
pub run_given : (kind : Kind) (words : List (List ℕ)) (end : Walk) (id : List ℕ) → Runs (shape_of kind) start words end
    → given (app_of kind) (name_of kind ∷ words) id ≡ first_of id (finished (shape_of kind).rules end.held)
unfolding given app
run_given kind words end id run =
    ap (λ (w : Walk). first_of id (finished (shape_of kind).rules w.held)) (run_walk (shape_of kind) start end words run)

-- ---- runs, word by word

-- the state behind a word that goes to a positional
abbrev pub behind : Kind → Walk → List ℕ → Walk
behind kind w word = after_step (shape_of kind).rules word w w.held value

-- the state behind a word that goes to the option of this name
abbrev pub behind_value : Kind → Walk → List ℕ → List ℕ → Walk
behind_value kind w id word = taken_by (shape_of kind).rules w.held w.position id word

-- the state behind any word
abbrev pub behind_any : Kind → Walk → List ℕ → Walk
behind_any kind w word = walked (shape_of kind).rules [] w word

pub ends : (kind : Kind) (end : Walk) → Runs (shape_of kind) end [] end
unfolding Runs
ends kind end = refl

pub any_then : (kind : Kind) (w end : Walk) (word : List ℕ) (words : List (List ℕ)) → turn_fault (shape_of kind) [] w word ≡ []
    → Runs (shape_of kind) (behind_any kind w word) words end → Runs (shape_of kind) w (word ∷ words) end
unfolding Runs
any_then kind w end word words faultless rest = (behind_any kind w word, faultless, refl, rest)

pub word_then : (kind : Kind) (held : Held) (position : ℕ) (end : Walk) (word : List ℕ) (words : List (List ℕ)) → IsPlain word
    → step_fault (shape_of kind) position held value ≡ [] → Runs (shape_of kind) (behind kind (between held idle position) word) words end
    → Runs (shape_of kind) (between held idle position) (word ∷ words) end
unfolding Runs
word_then kind held position end word words plain faultless rest = (
  behind kind (between held idle position) word,
  plain_fault (shape_of kind) held position word plain ∙ faultless,
  plain_walked (shape_of kind).rules held position word plain,
  rest,
)

pub value_then : (kind : Kind) (held : Held) (position : ℕ) (end : Walk) (id word : List ℕ) (words : List (List ℕ)) → IsPlain word
    → Runs (shape_of kind) (behind_value kind (between held (option id) position) id word) words end
    → Runs (shape_of kind) (between held (option id) position) (word ∷ words) end
unfolding Runs
value_then kind held position end id word words plain rest = (
  behind_value kind (between held (option id) position) id word,
  value_fault (shape_of kind) held position id word plain,
  value_walked (shape_of kind).rules held position id word plain,
  rest,
)
