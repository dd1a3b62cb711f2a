-- What the commands over a text and a second file give: the verdicts of the text's directives on a recording, and what
-- the directives mean over the names of a recording or a netlist.
use Rattle.std.specs.Prelude.{Bool, ◌≡◌, ◌⊎◌, ℕ, List, All, map, Option, None, Some, Result, Ok, Err}
use Rattle.blif_reader.specs.Meaning.{IsReading}
use Rattle.netlist.specs.Design.{Design}
use Rattle.command_line.specs.declared.Unknown as words
use Rattle.command_line.specs.declared.Unknown.TheVariants as word
use Rattle.psl_base.specs.Shelf.{Contents}
use Rattle.psl_grammar.specs.declared.tree.UnitTree.{UnitTree}
use Rattle.psl_layer_theory.specs.Answers.{IsUnit, IsLayerFault}
use Rattle.psl_lexer.specs.declared.token.Token.{Token}
use Rattle.psl_lexer.specs.Faults.{IsFirstFault}
use Rattle.psl_lexer.specs.Lexed.{IsLexed}
use Rattle.psl_tree.specs.Plain.{plain}
use Rattle.psl_parser.specs.Parsing.{IsParsed, IsParseFault}
use Rattle.psl_text.specs.CanonicalText.{formula_text}
use Rattle.psl_tree.specs.Counts.{obligations_of, shown}
use Rattle.psl_tree.specs.declared.directive.Directive.{Directive}
use Rattle.psl_tree.specs.declared.name.Name.{Name}
use Rattle.psl_tree.specs.Trees.{formula_of}
use Rattle.commands.specs.Diagnostics.{lex_diagnostic, parse_diagnostic, layer_diagnostic, judge_diagnostic, vcd_diagnostic, blif_diagnostic}
use Rattle.commands.specs.Faults.{at, fault_in}
use Rattle.commands.specs.Settled.{AreSettled}
use Rattle.commands.specs.Stages.{AndThen, Then, OfFile, ToldBy}
use Rattle.commands.specs.declared.inputs.Circuit.{Circuit}
use Rattle.commands.specs.declared.inputs.Inputs.{Inputs}
use Rattle.commands.specs.declared.outcome.Fault.{Fault}
use Rattle.commands.specs.declared.outcome.Line.{Line}
use Rattle.commands.specs.declared.outcome.Settled.{Settled}
use Rattle.commands.specs.declared.reason.Reason.TheVariants.{UnknownValue}
use Rattle.commands.specs.declared.subject.Subject.{Subject}
use Rattle.commands.specs.declared.wave.Judgement.{Judgement}
use Rattle.vcd_reader.specs.declared.unknown.Unknown.{Unknown}
use Rattle.vcd_reader.specs.declared.unknown.Unknown.TheVariants.{Zero, One, Refuse}
use Rattle.vcd_reader.specs.FirstUnknown.{IsFirstUnknown}
use Rattle.vcd_reader.specs.Meaning.{reading}
use Rattle.vcd_reader.specs.Sampled.{Sampled, letters_of, place_of_time}
use Rattle.wave_judge.specs.Faults.{IsJudgeable, IsJudgeFault}
use Rattle.wave_judge.specs.Judged.{AreVerdicts}
use Rattle.wave_judge.specs.declared.verdict.Verdict.{Verdict}

-- the tokens of a text, or its first fault
abbrev pub TokensReading : List ℕ → List ℕ → Result (List Token) Fault → Type 0
TokensReading name content = ToldBy name lex_diagnostic (IsLexed content) (IsFirstFault content)

-- the tree of tokens, or the first token with a fault
abbrev pub TreeReading : List ℕ → List ℕ → List Token → Result UnitTree Fault → Type 0
TreeReading name content tokens = ToldBy name (parse_diagnostic content tokens) (IsParsed tokens) (IsParseFault tokens)

-- the tree of a text
abbrev pub UnitReading : List ℕ → List ℕ → Result UnitTree Fault → Type 0
UnitReading name content = AndThen (TokensReading name content) (TreeReading name content)

abbrev pub UnitStage : List ℕ → Contents → Result UnitTree Fault → Type 0
UnitStage name = OfFile (UnitReading name) name

-- a text, and what is read of a second file
abbrev pub TextAnd : {A B : Type 0} → List ℕ → (Contents → Result A Fault → Type 0) → (UnitTree → A → B) → Contents → Result B Fault → Type 0
TextAnd unit Stage both = Then (UnitStage unit) (λ tree. Then Stage (λ value files result. result ≡ Ok (both tree value)))

-- the values of a recording, where unknown bits read so, or its first fault
abbrev pub RecordingReading : Unknown → List ℕ → List ℕ → Result Sampled Fault → Type 0
RecordingReading unknown name content =
    ToldBy name vcd_diagnostic (λ sampled. reading unknown content ≡ Ok sampled) (λ fault. reading unknown content ≡ Err fault)

abbrev pub RecordingStage : Unknown → List ℕ → Contents → Result Sampled Fault → Type 0
RecordingStage unknown name = OfFile (RecordingReading unknown name) name

abbrev pub with_recording : UnitTree → Sampled → Inputs
with_recording tree sampled = record { tree = tree; recording = sampled }

abbrev pub InputsStage : Unknown → List ℕ → List ℕ → Contents → Result Inputs Fault → Type 0
InputsStage unknown unit recording = TextAnd unit (RecordingStage unknown recording) with_recording

-- a netlist, or its first fault
abbrev pub NetlistReading : List ℕ → List ℕ → Result Design Fault → Type 0
NetlistReading name content = ToldBy name blif_diagnostic (λ design. IsReading content (Ok design)) (λ fault. IsReading content (Err fault))

abbrev pub NetlistStage : List ℕ → Contents → Result Design Fault → Type 0
NetlistStage name = OfFile (NetlistReading name) name

abbrev pub with_netlist : UnitTree → Design → Circuit
with_netlist tree design = record { tree = tree; netlist = design }

abbrev pub CircuitStage : List ℕ → List ℕ → Contents → Result Circuit Fault → Type 0
CircuitStage unit netlist = TextAnd unit (NetlistStage netlist) with_netlist

-- the directives of a text over names, or the first fault of kinds and names
abbrev pub DirectivesReading : List ℕ → UnitTree → List Name → Result (List Directive) Fault → Type 0
DirectivesReading name tree names = ToldBy name layer_diagnostic (IsUnit tree names) (IsLayerFault tree names)

-- a netlist, and the directives of a text over its names
abbrev pub subject_of : Circuit → List Directive → Subject
subject_of circuit directives = record { netlist = circuit.netlist; directives = directives }

abbrev pub SubjectReading : List ℕ → Circuit → Result Subject Fault → Type 0
SubjectReading name circuit =
    AndThen (DirectivesReading name circuit.tree circuit.netlist.names) (λ directives result. result ≡ Ok (subject_of circuit directives))

abbrev pub SubjectStage : List ℕ → List ℕ → Contents → Result Subject Fault → Type 0
SubjectStage unit netlist = Then (CircuitStage unit netlist) (λ circuit files. SubjectReading unit circuit)

-- the directives can be judged, and these are their verdicts on the recording
pub record AreJudged (sampled : Sampled) (directives : List Directive) (verdicts : List Verdict) : Type 0 where
  pub judgeable : All IsJudgeable directives
  pub verdicts_are : AreVerdicts (letters_of sampled) directives verdicts

-- the verdicts of directives, or the first directive that is too large to be judged
abbrev pub JudgeReading : List ℕ → Sampled → List Directive → Result (List Verdict) Fault → Type 0
JudgeReading name sampled directives = ToldBy name (judge_diagnostic directives) (AreJudged sampled directives) (IsJudgeFault directives)

-- the first sample that is refused, or that there is none: under `Refuse` that at which a bit is unknown that the directives test
abbrev pub IsFirstRefused : Unknown → Sampled → List Directive → Option ℕ → Type 0
IsFirstRefused Zero sampled directives first = first ≡ None
IsFirstRefused One sampled directives first = first ≡ None
IsFirstRefused Refuse sampled directives first = IsFirstUnknown sampled directives first

-- what is told of a sample that is refused, at the first token of its time
abbrev pub unknown_fault : List ℕ → Sampled → ℕ → Fault
unknown_fault name sampled sample = fault_in name (at UnknownValue (place_of_time sampled sample))

-- the first sample that is refused, or the verdicts of directives
abbrev pub KnownReading : Unknown → List ℕ → List ℕ → Sampled → List Directive → Result (List Verdict) Fault → Type 0
KnownReading unknown unit name sampled directives result =
    ((sample : ℕ) × IsFirstRefused unknown sampled directives (Some sample) × (result ≡ Err (unknown_fault name sampled sample)))
    ⊎ (IsFirstRefused unknown sampled directives None × JudgeReading unit sampled directives result)

-- the verdicts of directives, and from where on they are settled, where that is asked for
abbrev pub SettledReading : Bool → Unknown → List ℕ → List ℕ → Sampled → List Directive → Result Judgement Fault → Type 0
SettledReading points unknown unit name sampled directives =
    AndThen (KnownReading unknown unit name sampled directives) (λ verdicts result.
    (settled : Option (List (Option Settled))) × AreSettled points sampled directives verdicts settled
    × (result ≡ Ok (record { verdicts = verdicts; settled = settled })))

-- the same of a text on a recording
abbrev pub JudgedReading : Bool → Unknown → List ℕ → List ℕ → Inputs → Result Judgement Fault → Type 0
JudgedReading points unknown unit name inputs =
    AndThen (DirectivesReading unit inputs.tree inputs.recording.names) (SettledReading points unknown unit name inputs.recording)

-- what a directive means: its formula's canonical text, and how many obligations that has where its clocks are rewritten away
abbrev pub line_of : List Name → Directive → Line
line_of names directive = record {
  number = directive.number;
  kind = directive.kind;
  label = directive.label;
  text = formula_text names (formula_of directive.formula);
  obligations = shown (obligations_of (plain (formula_of directive.formula) None));
}

-- what the directives of a text mean over names
abbrev pub LinesReading : List ℕ → UnitTree → List Name → Result (List Line) Fault → Type 0
LinesReading name tree names =
    AndThen (DirectivesReading name tree names) (λ directives result. result ≡ Ok (map (line_of names) directives))

-- how unknown bits read by the word of `--unknown`
abbrev pub unknown_of : words.Unknown → Unknown
unknown_of word.Zero = Zero
unknown_of word.One = One
unknown_of word.Refuse = Refuse

-- `wave UNIT RECORDING --unknown WORD`, and whether `--where` stands there
abbrev pub WaveStage : List ℕ → List ℕ → Unknown → Bool → Contents → Result Judgement Fault → Type 0
WaveStage unit recording unknown points =
    Then (InputsStage unknown unit recording) (λ inputs files. JudgedReading points unknown unit recording inputs)

-- `show UNIT NAMES`, over the names of a recording
abbrev pub ShowStage : List ℕ → List ℕ → Contents → Result (List Line) Fault → Type 0
ShowStage unit names = Then (InputsStage Zero unit names) (λ inputs files. LinesReading unit inputs.tree inputs.recording.names)

-- `show UNIT NETLIST --netlist`, over those of a netlist
abbrev pub ShowNetlistStage : List ℕ → List ℕ → Contents → Result (List Line) Fault → Type 0
ShowNetlistStage unit netlist = Then (CircuitStage unit netlist) (λ circuit files. LinesReading unit circuit.tree circuit.netlist.names)
