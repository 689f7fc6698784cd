-- What depends on the language of the lines that are answered, and what the lines of an input come to.
use Rattle.std.specs.Prelude.{◌≡◌, ℕ, ◌+◌, ◌-◌, ◌<◌, Bool, true, false, nat_lt, if◌then◌else◌, List, [], ◌∷◌, ◌++◌, length, Option, None, Some, Result, Ok, Err}
use Rattle.std.specs.Option.{option_map}
use Rattle.aio_base.specs.declared.steps.LineFault.{LineFault}
use Rattle.aio_base.specs.declared.steps.Step.{Step}
use Rattle.aio_base.specs.declared.steps.Reason.{Reason}
use Rattle.aio_base.specs.declared.steps.Reason.TheVariants as reason
use Rattle.aio_base.specs.Lines.{fault_of, step_read}
use Rattle.aio_base.specs.Script.{output, reply_text, script_step, world_after}
use Rattle.aio_base.specs.Trace.{Refusal, Trace, is_header, line_limit, reason_of}
use Rattle.aio_base.specs.World.{World, opening}

-- The text that a line is answered by and the state behind it, or why the line is refused.
abbrev pub Reply : Type 0 → Type 0
Reply State = Result (List ℕ × State) Reason

-- The state before the first line, and what that line comes to; how many lines an input may have which has led to a state, the first among them; why a
-- line of more than 256 bytes is refused; what a further line comes to; the text that a state holds back until the lines end; and why they may not end in
-- it.
pub record Language (State : Type 0) : Type 0 where
  pub opening : State
  pub header : List ℕ → Reply State
  pub limit : State → ℕ
  pub long : Reason
  pub line : State → List ℕ → Reply State
  pub held : State → List ℕ
  pub unended : State → Option Reason

-- A line of more than 256 bytes is no header, and is refused for its length in each state. No line but the first says how many lines there may be.
pub record LanguageRules {State : Type 0} (l : Language State) : Type 0 where
  pub too_long : (s : State) (bytes : List ℕ) → 256 < length bytes → l.line s bytes ≡ Err l.long
  pub no_header : (bytes : List ℕ) → 256 < length bytes → l.header bytes ≡ Err reason.Header
  pub same_limit : (s : State) (bytes text : List ℕ) (t : State) → l.line s bytes ≡ Ok (text, t) → l.limit t ≡ l.limit s

-- ## What lines come to

-- the text that is written of them, the state behind the last that is answered, and the one that is refused
pub record Told (State : Type 0) : Type 0 where
  pub text : List ℕ
  pub state : State
  pub refusal : Option Refusal

-- no line is answered any more: the text that was held back is written
abbrev pub ends_in : {State : Type 0} → Language State → State → Option Refusal → Told State
ends_in l s refusal = record { text = l.held s; state = s; refusal = refusal }

abbrev pub refusal_at : ℕ → Reason → Refusal
refusal_at line why = record { line = line; reason = why }

abbrev pub refused_in : {State : Type 0} → Language State → State → ℕ → Reason → Told State
refused_in l s line why = ends_in l s (Some (refusal_at line why))

abbrev pub with_text : {State : Type 0} → List ℕ → Told State → Told State
with_text text told = record told { text = text ++ told.text }

-- the text of a line is in front of what the lines behind it come to
abbrev pub told_after : {State : Type 0} → Language State → State → ℕ → Reply State → (State → Told State) → Told State
told_after l s line (Ok reply) behind = with_text reply.0 (behind reply.1)
told_after l s line (Err why) behind = refused_in l s line why

-- What these lines come to from a state on, the first of which has this number. Where they may not end, the last of them is refused.
abbrev pub told_from : {State : Type 0} → Language State → ℕ → State → List (List ℕ) → Told State
told_from l line s [] = ends_in l s (option_map (refusal_at (line - 1)) (l.unended s))
told_from l line s (bytes ∷ lines) =
    if nat_lt (l.limit s) line then refused_in l s line reason.Lines else told_after l s line (l.line s bytes) (λ behind. told_from l (line + 1) behind lines)

-- The first line opens nothing. No text is written, also none that is held back before any line.
abbrev pub unopened : {State : Type 0} → Language State → Reason → Told State
unopened l why = record { text = []; state = l.opening; refusal = Some (refusal_at 1 why) }

abbrev pub told_behind : {State : Type 0} → Language State → Reply State → List (List ℕ) → Told State
told_behind l (Ok opened) lines = with_text opened.0 (told_from l 2 opened.1 lines)
told_behind l (Err why) lines = unopened l why

-- what the lines of an input come to; where there is none, it is the header that is wrong
abbrev pub told_of : {State : Type 0} → Language State → List (List ℕ) → Told State
told_of l [] = unopened l reason.Header
told_of l (header ∷ lines) = told_behind l (l.header header) lines

abbrev pub limit_behind : {State : Type 0} → Language State → Reply State → ℕ
limit_behind l (Ok opened) = l.limit opened.1
limit_behind l (Err why) = 0

-- how many lines an input may have by its header, and 0 where it has none
abbrev pub lines_in : {State : Type 0} → Language State → List (List ℕ) → ℕ
lines_in l [] = 0
lines_in l (header ∷ lines) = limit_behind l (l.header header)

-- Lines in front come to this text and this state, where all are answered: whatever lines follow, the text is in front of what these come to from
-- that state on.
abbrev pub LeadsTo : {State : Type 0} → Language State → List (List ℕ) → List ℕ → State → Type 0
LeadsTo l [] text s = (text ≡ []) × (s ≡ l.opening)
LeadsTo l (header ∷ front) text s = (more : List (List ℕ)) → told_of l (header ∷ front ++ more) ≡ with_text text (told_from l (length front + 2) s more)

-- ## The first version of the trace language

-- a line with a fault is refused for it, and one without a fault is answered by the reply to its step
abbrev pub first_reply : World → Option LineFault → Option Step → Reply World
first_reply w (Some fault) read = Err (reason_of fault)
first_reply w None (Some s) = Ok (reply_text (script_step w s).answer (script_step w s).wakes, (script_step w s).world)
first_reply w None None = Ok ([], w)

abbrev pub first_header : Bool → Reply World
first_header true = Ok ([], opening)
first_header false = Err reason.Header

abbrev pub first_version : Language World
first_version = record {
  opening = opening;
  header = λ bytes. first_header (is_header bytes);
  limit = λ w. line_limit;
  long = reason.Long;
  line = λ w text. first_reply w (fault_of text) (step_read text);
  held = λ w. [];
  unended = λ w. None;
}

-- What a trace comes to: the output of its steps, the world behind them, and the line that is refused.
abbrev pub run_of : Trace → Told World
run_of t = record { text = output t.steps; state = world_after opening t.steps; refusal = t.refusal }

-- some of the first steps of a trace write this text, and lead to this world
pub record RunsTo (t : Trace) (text : List ℕ) (w : World) : Type 0 where
  pub done : List Step
  pub more : List Step
  pub whole : t.steps ≡ done ++ more
  pub text_is : text ≡ output done
  pub world_is : w ≡ world_after opening done
