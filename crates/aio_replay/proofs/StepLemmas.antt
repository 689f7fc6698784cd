-- From what stands before a line to what stands after it, or to what an end says.
use Rattle.std.proofs.Common.{◌≡◌, ℕ, ◌+◌, ◌-◌, ◌*◌, ◌<◌, ◌≤◌, true, false, nat_lt, if◌then◌else◌, List, [], ◌∷◌, ◌++◌, length, length-append, take, Option, None, Some, Ok, Err, inl, inr, refl, sym, ap, ◌∙◌, subst, append_assoc, append-nil, arith}
use Rattle.std.proofs.lemmas.Bool.Decides.{nat_tests}
use Rattle.std.proofs.lemmas.List.{take_at}
use Rattle.std.specs.Io.KnownBytes.{Appends}
use Rattle.std.specs.Option.{option_map}
use Rattle.std.proofs.KnownBytes.{Appends-nil}
use Rattle.aio_base.specs.declared.steps.Reason.{Reason}
use Rattle.aio_base.specs.declared.steps.Reason.TheVariants as reason
use Rattle.aio_base.specs.Trace.{lines_of}
use Rattle.aio_bytes.specs.Sinks.{Writes}
use Rattle.aio_bytes.specs.Unread.{Unread, LeavesAllBut, BeginsLong, TakesLine, length_of_lines, bytes_before}
use Rattle.aio_replay.specs.declared.ends.Stop.{Stop}
use Rattle.aio_replay.specs.declared.ends.End.{End}
use Rattle.aio_replay.specs.declared.ends.End.TheVariants as ends
use Rattle.aio_replay.specs.Answering.{AnswerRules, Replied}
use Rattle.aio_replay.specs.Language.{Language, LanguageRules, LeadsTo, Reply, Told, ends_in, limit_behind, lines_in, refused_in, refusal_at, with_text, told_after, told_behind, told_from, told_of, unopened}
use Rattle.aio_replay.specs.Driving.{EndsSo, Sends, StoppedBehind, ToldWhole, UnlessMemory, bytes_of_end, most_bytes}
use Rattle.aio_replay.specs.Steps.{Answered, Closes, Closing, Finishes, IsRead, LacksMemory, LineTaken, Opens, Standing, TakesLines, end_before, refusal_of}
use Rattle.aio_replay.proofs.DrivingLemmas.{Sends-behind, Sends-trans, Sends-writes, long_is_refused}

-- ## What lines come to

-- a line within the limit is answered or refused
told_within : {S : Type 0} (l : Language S) (line : ℕ) (s : S) (bytes : List ℕ) (lines : List (List ℕ)) → line ≤ l.limit s
    → told_from l line s (bytes ∷ lines) ≡ told_after l s line (l.line s bytes) (λ behind. told_from l (line + 1) behind lines)
told_within l line s bytes lines le =
    let test : nat_lt (l.limit s) line ≡ false = grind (arith, nat_tests) in
    ap (λ t. if t then refused_in l s line reason.Lines else told_after l s line (l.line s bytes) (λ behind. told_from l (line + 1) behind lines)) test

told_answered : {S : Type 0} (l : Language S) (line : ℕ) (s : S) (bytes : List ℕ) (lines : List (List ℕ)) (added : List ℕ) (t : S) → line ≤ l.limit s
    → l.line s bytes ≡ Ok (added, t) → told_from l line s (bytes ∷ lines) ≡ with_text added (told_from l (line + 1) t lines)
told_answered l line s bytes lines added t le is =
    told_within l line s bytes lines le ∙ ap (λ (reply : Reply _). told_after l s line reply (λ behind. told_from l (line + 1) behind lines)) is

told_refused : {S : Type 0} (l : Language S) (line : ℕ) (s : S) (bytes : List ℕ) (lines : List (List ℕ)) (why : Reason) → line ≤ l.limit s
    → l.line s bytes ≡ Err why → told_from l line s (bytes ∷ lines) ≡ refused_in l s line why
told_refused l line s bytes lines why le is =
    told_within l line s bytes lines le ∙ ap (λ (reply : Reply _). told_after l s line reply (λ behind. told_from l (line + 1) behind lines)) is

told_past : {S : Type 0} (l : Language S) (line : ℕ) (s : S) (bytes : List ℕ) (lines : List (List ℕ)) → l.limit s < line
    → told_from l line s (bytes ∷ lines) ≡ refused_in l s line reason.Lines
told_past l line s bytes lines lt =
    let test : nat_lt (l.limit s) line ≡ true = grind (arith, nat_tests) in
    ap (λ t. if t then refused_in l s line reason.Lines else told_after l s line (l.line s bytes) (λ behind. told_from l (line + 1) behind lines)) test

with_texts : {S : Type 0} (x y : List ℕ) (t : Told S) → with_text x (with_text y t) ≡ with_text (x ++ y) t
with_texts x y t = ap (λ text. let r : Told _ = record { text = text; state = t.state; refusal = t.refusal } in r) (sym (append_assoc x y t.text))

-- lines that lead to a state lead with one more to the state behind it
leads_on : {S : Type 0} (l : Language S) (header : List ℕ) (front : List (List ℕ)) (text : List ℕ) (s : S) (bytes added : List ℕ) (t : S)
    → LeadsTo l (header ∷ front) text s → length front + 2 ≤ l.limit s → l.line s bytes ≡ Ok (added, t) → LeadsTo l (header ∷ front ++ bytes ∷ []) (text ++ added) t
leads_on l header front text s bytes added t leads le is = λ more.
    let longer : length front + 2 + 1 ≡ length (front ++ bytes ∷ []) + 2 = omega (arith, length-append front (bytes ∷ [])) in
    ap (λ x. told_of l (header ∷ x)) (append_assoc front (bytes ∷ []) more)
    ∙ leads (bytes ∷ more)
    ∙ ap (with_text text) (told_answered l (length front + 2) s bytes more added t le is)
    ∙ with_texts text added (told_from l (length front + 2 + 1) t more)
    ∙ ap (λ n. with_text (text ++ added) (told_from l n t more)) longer

-- ## The lines of an input

-- what an input comes to before a line is read
told_standing : {A : Type 0} (r : AnswerRules A) (input : List ℕ) (told first out : Option (List ℕ)) (line : ℕ) (ahead text : List ℕ) (a : A)
    → (s : Standing r input told first out line ahead text a)
    → told_of r.language (lines_of input) ≡ with_text s.answered.whole (told_from r.language line s.answered.state (lines_of s.rest))
told_standing r input told first out line ahead text a s =
    let at : length s.front + 2 ≡ line = omega (arith, s.before.count) in
    ap (told_of r.language) s.before.lines
    ∙ s.answered.leads (lines_of s.rest)
    ∙ ap (λ n. with_text s.answered.whole (told_from r.language n s.answered.state (lines_of s.rest))) at

-- the same once the bytes of the line are taken
told_taken : {A : Type 0} (r : AnswerRules A) (input : List ℕ) (told first out : Option (List ℕ)) (line : ℕ) (bytes ahead text : List ℕ) (a : A)
    → (t : LineTaken r input told first out line bytes ahead text a)
    → told_of r.language (lines_of input) ≡ with_text t.answered.whole (told_from r.language line t.answered.state (bytes ∷ lines_of t.rest))
told_taken r input told first out line bytes ahead text a t =
    ap (told_of r.language) (t.before.lines ∙ ap (λ x. t.header ∷ x) (append_assoc t.front (bytes ∷ []) (lines_of t.rest)))
    ∙ t.answered.leads (bytes ∷ lines_of t.rest)
    ∙ ap (λ n. with_text t.answered.whole (told_from r.language n t.answered.state (bytes ∷ lines_of t.rest))) t.count

-- more of the text was written
abbrev sends_more : {A : Type 0} (r : AnswerRules A) (front : List (List ℕ)) (first old new : Option (List ℕ)) (text kept_text : List ℕ) (a : A)
    → Answered r front first old text a → Sends old new text kept_text → Answered r front first new kept_text a
sends_more r front first old new text kept_text a d sends = record {
  whole = d.whole;
  state = d.state;
  leads = d.leads;
  stands = d.stands;
  written = Sends-trans first old new d.whole text kept_text d.written sends;
}

-- ## The bytes before a line

length_of_lines-push : (lines : List (List ℕ)) (line : List ℕ) → length_of_lines (lines ++ line ∷ []) ≡ length_of_lines lines + (length line + 1)
length_of_lines-push [] line = omega arith
length_of_lines-push (first ∷ lines) line = omega (arith, length_of_lines-push lines line)

before_is : (input : List ℕ) (front : List (List ℕ)) (line : ℕ) (rest : List ℕ) → TakesLines input front line rest → bytes_before line input ≡ length_of_lines front
before_is input front line rest t =
    let count : length front ≡ line - 1 = omega (arith, t.count) in
    ap (λ lines. length_of_lines (take (line - 1) lines)) t.lines ∙ ap length_of_lines (take_at front (lines_of rest) (line - 1) count)

-- nothing is taken before the first line
takes_none : (input : List ℕ) → TakesLines input [] 1 input
takes_none input = record { taken = []; whole = refl; lines = refl; count = refl; within = omega arith; most = omega arith; last = λ before is. omega arith }

-- one more line
takes_one : (input : List ℕ) (front : List (List ℕ)) (now : Option (List ℕ)) (line : ℕ) (bytes left rest : List ℕ) → TakesLines input front line rest
    → (t : TakesLine now bytes left rest) → TakesLines input (front ++ bytes ∷ []) (line + 1) t.rest
takes_one input front now line bytes left rest s t = record {
  taken = s.taken ++ t.taken;
  whole = s.whole ∙ ap (λ x. s.taken ++ x) t.whole ∙ sym (append_assoc s.taken t.taken t.rest);
  lines = s.lines ∙ ap (λ x. front ++ x) t.lines ∙ sym (append_assoc front (bytes ∷ []) (lines_of t.rest));
  count = omega (arith, length-append front (bytes ∷ []), s.count);
  within = omega (arith, length-append s.taken t.taken, length_of_lines-push front bytes, s.within, t.within);
  most = omega (arith, length-append s.taken t.taken, s.most, t.most);
  last = λ before is.
      let same : before ≡ line = omega (arith, is) in
      let at : bytes_before before input ≡ length_of_lines front = ap (λ n. bytes_before n input) same ∙ before_is input front line rest s in
      omega (arith, length-append s.taken t.taken, s.within, t.most, at);
}

-- what a source gave of the rest, it gave of the input behind the lines before
held_behind : (input : List ℕ) (front : List (List ℕ)) (now : Option (List ℕ)) (line : ℕ) (rest : List ℕ) → TakesLines input front line rest → LeavesAllBut 257 now rest
    → LeavesAllBut (bytes_before line input + 257) now input
held_behind input front now line rest t l = record {
  taken = t.taken ++ l.taken;
  left = l.left;
  is_left = l.is_left;
  whole = t.whole ∙ ap (λ x. t.taken ++ x) l.whole ∙ sym (append_assoc t.taken l.taken l.left);
  most = omega (arith, length-append t.taken l.taken, t.within, l.most, before_is input front line rest t);
}

held_few : (input : List ℕ) (front : List (List ℕ)) (now : Option (List ℕ)) (line : ℕ) (rest : List ℕ) → TakesLines input front line rest → LeavesAllBut 257 now rest
    → LeavesAllBut (257 * line) now input
held_few input front now line rest t l = record {
  taken = t.taken ++ l.taken;
  left = l.left;
  is_left = l.is_left;
  whole = t.whole ∙ ap (λ x. t.taken ++ x) l.whole ∙ sym (append_assoc t.taken l.taken l.left);
  most = omega (arith, length-append t.taken l.taken, t.most, l.most);
}

pub leaves_more : (a b : ℕ) (now : Option (List ℕ)) (input : List ℕ) → a ≤ b → LeavesAllBut a now input → LeavesAllBut b now input
leaves_more a b now input le l = record { taken = l.taken; left = l.left; is_left = l.is_left; whole = l.whole; most = omega (arith, le, l.most) }

-- at most the bytes of all lines and of one more
held_at_last : (limit : ℕ) (input : List ℕ) (front : List (List ℕ)) (now : Option (List ℕ)) (line : ℕ) (rest : List ℕ) → line ≤ limit + 1
    → TakesLines input front line rest → LeavesAllBut 257 now rest → LeavesAllBut (most_bytes limit) now input
held_at_last limit input front now line rest le t h =
    leaves_more (257 * line) (257 * (limit + 1)) now input (omega (arith, le)) (held_few input front now line rest t h)

-- ## From a line that is found

pub takes : {A : Type 0} (r : AnswerRules A) (input : List ℕ) (told now first old new : Option (List ℕ)) (line : ℕ) (ahead bytes left text kept_text : List ℕ) (a : A)
    → (s : Standing r input told first old line ahead text a) → TakesLine now bytes left s.rest → Sends old new text kept_text
    → LineTaken r input now first new line bytes left kept_text a
takes r input told now first old new line ahead bytes left text kept_text a s t sends = record {
  header = s.header;
  front = s.front;
  rest = t.rest;
  is_rest = t.is_rest;
  answered = sends_more r (s.header ∷ s.front) first old new text kept_text a s.answered sends;
  limit = s.limit;
  count = omega (arith, s.before.count);
  before = takes_one input (s.header ∷ s.front) now line bytes left s.rest s.before t;
  held = held_behind input (s.header ∷ s.front) now line s.rest s.before t.held;
  held_few = held_few input (s.header ∷ s.front) now line s.rest s.before t.held;
}

-- the line is answered, and its text stands behind that of the lines before
pub goes_on : {A : Type 0} (r : AnswerRules A) (input : List ℕ) (told first out : Option (List ℕ)) (line : ℕ) (bytes ahead text new : List ℕ) (a after : A)
    → LanguageRules r.language → (t : LineTaken r input told first out line bytes ahead text a) → line ≤ lines_in r.language (lines_of input)
    → Replied r (r.language.line t.answered.state bytes) text new after → Standing r input told first out (line + 1) ahead new after
goes_on r input told first out line bytes ahead text new a after laws t le reply =
    let d = t.answered in
    let few : length t.front + 2 ≤ r.language.limit d.state = omega (arith, t.count, le, t.limit) in
    record {
      header = t.header;
      front = t.front ++ bytes ∷ [];
      rest = t.rest;
      is_rest = t.is_rest;
      answered = record {
        whole = d.whole ++ reply.added;
        state = reply.state;
        leads = leads_on r.language t.header t.front d.whole d.state bytes reply.added reply.state d.leads few reply.is;
        stands = reply.stands;
        written = record {
          sent = d.written.sent;
          appended = d.written.appended;
          whole = ap (λ x. x ++ reply.added) d.written.whole ∙ append_assoc d.written.sent text reply.added ∙ ap (λ x. d.written.sent ++ x) (sym reply.text);
        };
      };
      limit = laws.same_limit d.state bytes reply.added reply.state reply.is ∙ t.limit;
      before = t.before;
    }

-- the text is written between two lines
pub flushed : {A : Type 0} (r : AnswerRules A) (input : List ℕ) (told first old new : Option (List ℕ)) (line : ℕ) (ahead text kept_text : List ℕ) (a : A)
    → Standing r input told first old line ahead text a → Sends old new text kept_text → Standing r input told first new line ahead kept_text a
flushed r input told first old new line ahead text kept_text a s sends = record {
  header = s.header;
  front = s.front;
  rest = s.rest;
  is_rest = s.is_rest;
  answered = sends_more r (s.header ∷ s.front) first old new text kept_text a s.answered sends;
  limit = s.limit;
  before = s.before;
}

-- ## To a stop

-- it was stopped behind the lines in front, and their text was written as far as the output took it
stops_behind : {A : Type 0} (r : AnswerRules A) (input : List ℕ) (first old new : Option (List ℕ)) (text : List ℕ) (front back : List (List ℕ)) (left : Told r.State)
    (e : Stop) (a after : A) → lines_of input ≡ front ++ back → (d : Answered r front first old text a)
    → told_of r.language (lines_of input) ≡ with_text d.whole left → UnlessMemory e (r.stands after d.state) → Writes e.sent old new text
    → StoppedBehind r e input first new after
stops_behind r input first old new text front back left e a after lines d says keeps part = record {
  front = front;
  back = back;
  lines = lines;
  text = d.whole;
  state = d.state;
  leads = d.leads;
  held = [];
  is_held = inl refl;
  left = left.text;
  whole = ap (λ (t : Told _). t.text) says ∙ ap (λ t. t ++ left.text) (sym (append-nil d.whole));
  written = subst (Writes e.sent first new) (sym (append-nil d.whole)) (Sends-writes e.sent first old new d.whole text d.written part);
  stands = keeps;
}

stops : {A : Type 0} (r : AnswerRules A) (input : List ℕ) (now first new : Option (List ℕ)) (e : Stop) (a : A)
    → StoppedBehind r e input first new a → LeavesAllBut (most_bytes (lines_in r.language (lines_of input))) now input → EndsSo r (ends.Stopped e) input now first new a
stops r input now first new e a b taken = record { says = b; taken = taken; few = taken }

-- while a line was looked for
pub stops_before : {A : Type 0} (r : AnswerRules A) (input : List ℕ) (told now first old new : Option (List ℕ)) (line : ℕ) (ahead text : List ℕ) (a : A) (e : Stop)
    → (s : Standing r input told first old line ahead text a) → line ≤ lines_in r.language (lines_of input) + 1 → LeavesAllBut 257 now s.rest → Writes e.sent old new text
    → EndsSo r (ends.Stopped e) input now first new a
stops_before r input told now first old new line ahead text a e s le h part =
    stops r input now first new e a
    (stops_behind r input first old new text (s.header ∷ s.front) (lines_of s.rest) _ e a a s.before.lines s.answered
    (told_standing r input told first old line ahead text a s) (λ other. s.answered.stands) part)
    (held_at_last (lines_in r.language (lines_of input)) input (s.header ∷ s.front) now line s.rest le s.before h)

-- memory ran out for a line
pub stops_in_line : {A : Type 0} (r : AnswerRules A) (result : End) (input : List ℕ) (told first old new : Option (List ℕ)) (line : ℕ) (bytes ahead text : List ℕ) (a after : A)
    → LineTaken r input told first old line bytes ahead text a → line ≤ lines_in r.language (lines_of input) → LacksMemory result old new text → EndsSo r result input told first new after
stops_in_line r ends.Done input told first old new line bytes ahead text a after t le lacks = absurd lacks
stops_in_line r (ends.Refused at why) input told first old new line bytes ahead text a after t le lacks = absurd lacks
stops_in_line r (ends.Stopped e) input told first old new line bytes ahead text a after t le lacks =
    stops r input told first new e after
    (stops_behind r input first old new text (t.header ∷ t.front) (bytes ∷ lines_of t.rest) _ e a after
    (t.before.lines ∙ ap (λ x. t.header ∷ x) (append_assoc t.front (bytes ∷ []) (lines_of t.rest))) t.answered
    (told_taken r input told first old line bytes ahead text a t) (λ other. absurd (other lacks.0)) lacks.1)
    (leaves_more (257 * line) (257 * (lines_in r.language (lines_of input) + 1)) told input (omega (arith, le)) t.held_few)

-- before the next line
pub stops_between : {A : Type 0} (r : AnswerRules A) (input : List ℕ) (told first old new : Option (List ℕ)) (line : ℕ) (ahead text : List ℕ) (a : A) (e : Stop)
    → Standing r input told first old line ahead text a → LeavesAllBut (most_bytes (lines_in r.language (lines_of input))) told input → Writes e.sent old new text
    → EndsSo r (ends.Stopped e) input told first new a
stops_between r input told first old new line ahead text a e s h part =
    stops r input told first new e a
    (stops_behind r input first old new text (s.header ∷ s.front) (lines_of s.rest) _ e a a s.before.lines s.answered
    (told_standing r input told first old line ahead text a s) (λ other. s.answered.stands) part) h

-- ## To an end that is wanted

-- what is said where the whole text went out, with what was held back
told_whole : {A : Type 0} (r : AnswerRules A) (wanted : End) (input : List ℕ) (told first old new : Option (List ℕ)) (text : List ℕ) (a : A)
    → (c : Closing r wanted input told first old text a) → Appends old new (text ++ r.language.held c.answered.state) → ToldWhole r (refusal_of wanted) input first new a
told_whole r wanted input told first old new text a c rest =
    let d = c.answered in
    let held = r.language.held d.state in
    let written : Appends first new (d.whole ++ held) = Sends-writes (Ok tt) first old new _ _ (Sends-behind first old d.whole text held d.written) rest in
    record {
      refusal_is = ap (λ (t : Told _). t.refusal) c.ends;
      written = subst (Appends first new) (sym (ap (λ (t : Told _). t.text) c.ends)) written;
      stands = subst (r.stands a) (sym (ap (λ (t : Told _). t.state) c.ends)) d.stands;
    }

-- the output took a part
closes_part : {A : Type 0} (r : AnswerRules A) (e : Stop) (wanted : End) (input : List ℕ) (told first old new : Option (List ℕ)) (text : List ℕ) (a : A)
    → (c : Closing r wanted input told first old text a) → Writes e.sent old new (text ++ r.language.held c.answered.state) → StoppedBehind r e input first new a
closes_part r e wanted input told first old new text a c part =
    let d = c.answered in
    let held = r.language.held d.state in
    record {
      front = c.front;
      back = c.back;
      lines = c.lines;
      text = d.whole;
      state = d.state;
      leads = d.leads;
      held = held;
      is_held = inr refl;
      left = [];
      whole = ap (λ (t : Told _). t.text) c.ends ∙ sym (append-nil (d.whole ++ held));
      written = Sends-writes e.sent first old new _ _ (Sends-behind first old d.whole text held d.written) part;
      stands = λ other. d.stands;
    }

closes_whole : {A : Type 0} (r : AnswerRules A) (result wanted : End) (input : List ℕ) (told first old new : Option (List ℕ)) (text : List ℕ) (a : A)
    → (c : Closing r wanted input told first old text a) → Closes result wanted old new (text ++ r.language.held c.answered.state) → EndsSo r result input told first new a
closes_whole r ends.Done wanted input told first old new text a c e =
    let same : wanted ≡ ends.Done = e.0 in
    record {
      says = (
        subst (λ (x : End). IsRead x told) same c.is_read,
        subst (λ (x : End). ToldWhole r (refusal_of x) input first new a) same (told_whole r wanted input told first old new text a c e.1),
      );
      taken = subst (λ (x : End). LeavesAllBut (bytes_of_end (lines_in r.language (lines_of input)) x input) told input) same c.taken;
      few = c.taken_few;
    }
closes_whole r (ends.Refused line why) wanted input told first old new text a c e =
    let same : wanted ≡ ends.Refused line why = e.0 in
    record {
      says = subst (λ (x : End). ToldWhole r (refusal_of x) input first new a) same (told_whole r wanted input told first old new text a c e.1);
      taken = subst (λ (x : End). LeavesAllBut (bytes_of_end (lines_in r.language (lines_of input)) x input) told input) same c.taken;
      few = c.taken_few;
    }
closes_whole r (ends.Stopped s) wanted input told first old new text a c e =
    stops r input told first new s a (closes_part r s wanted input told first old new text a c e) c.taken_few

closes_short : {A : Type 0} (r : AnswerRules A) (result wanted : End) (input : List ℕ) (told first old new : Option (List ℕ)) (text : List ℕ) (a : A)
    → Closing r wanted input told first old text a → LacksMemory result old new text → EndsSo r result input told first new a
closes_short r ends.Done wanted input told first old new text a c e = absurd e
closes_short r (ends.Refused line why) wanted input told first old new text a c e = absurd e
closes_short r (ends.Stopped s) wanted input told first old new text a c e =
    stops r input told first new s a
    (stops_behind r input first old new text c.front c.back _ s a a c.lines c.answered c.ends (λ other. absurd (other e.0)) e.1) c.taken_few

-- whatever the end came to in the state behind the lines
closes_in : {A : Type 0} (r : AnswerRules A) (result wanted : End) (input : List ℕ) (told first old new : Option (List ℕ)) (text : List ℕ) (a after : A)
    → (c : Closing r wanted input told first old text a) → after ≡ a → Finishes r c.answered.state result wanted old new text → EndsSo r result input told first new after
closes_in r result wanted input told first old new text a after c same e = subst (λ (x : _). EndsSo r result input told first new x) (sym same) (by_case e)
  where
    by_case : Finishes r c.answered.state result wanted old new text → EndsSo r result input told first new a
    by_case (inl whole) = closes_whole r result wanted input told first old new text a c whole
    by_case (inr short) = closes_short r result wanted input told first old new text a c short

pub closes : {A : Type 0} (r : AnswerRules A) (result wanted : End) (input : List ℕ) (told first old new : Option (List ℕ)) (text : List ℕ) (a after : A)
    → Closing r wanted input told first old text a → after ≡ a → ((s : r.State) → r.stands a s → Finishes r s result wanted old new text)
    → EndsSo r result input told first new after
closes r result wanted input told first old new text a after c same e =
    closes_in r result wanted input told first old new text a after c same (e c.answered.state c.answered.stands)

-- a line is refused
pub refuses_line : {A : Type 0} (r : AnswerRules A) (input : List ℕ) (told first out : Option (List ℕ)) (line : ℕ) (bytes ahead text : List ℕ) (a : A) (why : Reason)
    → (t : LineTaken r input told first out line bytes ahead text a) → line ≤ lines_in r.language (lines_of input) → r.language.line t.answered.state bytes ≡ Err why
    → Closing r (ends.Refused line why) input told first out text a
refuses_line r input told first out line bytes ahead text a why t le is = record {
  front = t.header ∷ t.front;
  back = bytes ∷ lines_of t.rest;
  lines = t.before.lines ∙ ap (λ x. t.header ∷ x) (append_assoc t.front (bytes ∷ []) (lines_of t.rest));
  answered = t.answered;
  ends = told_taken r input told first out line bytes ahead text a t
      ∙ ap (with_text t.answered.whole) (told_refused r.language line t.answered.state bytes (lines_of t.rest) why (omega (arith, le, t.limit)) is);
  is_read = tt;
  taken = t.held;
  taken_few = leaves_more (257 * line) (257 * (lines_in r.language (lines_of input) + 1)) told input (omega (arith, le)) t.held_few;
}

-- the first line that is left is refused, whatever it says
refuses_first : {A : Type 0} (r : AnswerRules A) (input : List ℕ) (told now first old new : Option (List ℕ)) (line : ℕ) (ahead text kept_text : List ℕ) (why : Reason) (a : A)
    → (s : Standing r input told first old line ahead text a) → line ≤ lines_in r.language (lines_of input) + 1
    → told_from r.language line s.answered.state (lines_of s.rest) ≡ refused_in r.language s.answered.state line why → LeavesAllBut 257 now s.rest
    → Sends old new text kept_text → Closing r (ends.Refused line why) input now first new kept_text a
refuses_first r input told now first old new line ahead text kept_text why a s le is h sends = record {
  front = s.header ∷ s.front;
  back = lines_of s.rest;
  lines = s.before.lines;
  answered = sends_more r (s.header ∷ s.front) first old new text kept_text a s.answered sends;
  ends = told_standing r input told first old line ahead text a s ∙ ap (with_text s.answered.whole) is;
  is_read = tt;
  taken = held_behind input (s.header ∷ s.front) now line s.rest s.before h;
  taken_few = held_at_last (lines_in r.language (lines_of input)) input (s.header ∷ s.front) now line s.rest le s.before h;
}

-- a line that is too long is refused
pub refuses_long : {A : Type 0} (r : AnswerRules A) (input : List ℕ) (told now first old new : Option (List ℕ)) (line : ℕ) (ahead text kept_text : List ℕ) (a : A)
    → LanguageRules r.language → (s : Standing r input told first old line ahead text a) → line ≤ lines_in r.language (lines_of input) → BeginsLong s.rest → LeavesAllBut 257 now s.rest
    → Sends old new text kept_text → Closing r (ends.Refused line r.language.long) input now first new kept_text a
refuses_long r input told now first old new line ahead text kept_text a laws s le long h sends =
    let b = long_is_refused r.language s.rest laws long in
    refuses_first r input told now first old new line ahead text kept_text r.language.long a s (omega (arith, le))
    (ap (told_from r.language line s.answered.state) b.lines
    ∙ told_refused r.language line s.answered.state b.first b.others r.language.long (omega (arith, le, s.limit)) (b.too_long s.answered.state)) h sends

-- a line past the last that an input may have is refused, whatever it says
pub refuses_past : {A : Type 0} (r : AnswerRules A) (input : List ℕ) (told now first old new : Option (List ℕ)) (line : ℕ) (ahead text kept_text first_line : List ℕ)
    (others : List (List ℕ)) (a : A) → (s : Standing r input told first old line ahead text a) → line ≡ lines_in r.language (lines_of input) + 1 → lines_of s.rest ≡ first_line ∷ others
    → LeavesAllBut 257 now s.rest → Sends old new text kept_text → Closing r (ends.Refused line reason.Lines) input now first new kept_text a
refuses_past r input told now first old new line ahead text kept_text first_line others a s last lines h sends =
    refuses_first r input told now first old new line ahead text kept_text reason.Lines a s (omega (arith, last))
    (ap (told_from r.language line s.answered.state) lines
    ∙ told_past r.language line s.answered.state first_line others (omega (arith, last, s.limit))) h sends

-- where nothing is left of the input, so many bytes at most are taken of it
all_taken : (input rest : List ℕ) (front : List (List ℕ)) (line most : ℕ) (now : Option (List ℕ)) → (t : TakesLines input front line rest) → (rest ≡ []) × (now ≡ Some [])
    → length t.taken ≤ most → LeavesAllBut most now input
all_taken input rest front line most now t nothing few = record {
  taken = t.taken;
  left = [];
  is_left = nothing.1;
  whole = t.whole ∙ ap (λ x. t.taken ++ x) nothing.0;
  most = few;
}

taken_at_end : (limit : ℕ) (input rest : List ℕ) (front : List (List ℕ)) (line : ℕ) (now : Option (List ℕ)) (why : Option Reason) → TakesLines input front line rest
    → line ≤ limit + 1 → (rest ≡ []) × (now ≡ Some []) → LeavesAllBut (bytes_of_end limit (end_before line why) input) now input
taken_at_end limit input rest front line now None t le nothing = all_taken input rest front line (257 * (limit + 1)) now t nothing (omega (arith, t.most, le))
taken_at_end limit input rest front line now (Some why) t le nothing =
    let before : line - 1 + 1 ≡ line = omega (arith, t.count) in
    all_taken input rest front line (bytes_before (line - 1) input + 257) now t nothing (t.last (line - 1) before)

read_at_end : (line : ℕ) (now : Option (List ℕ)) (why : Option Reason) → now ≡ Some [] → IsRead (end_before line why) now
read_at_end line now None is = is
read_at_end line now (Some why) is = tt

refusal_at_end : (line : ℕ) (why : Option Reason) → option_map (refusal_at (line - 1)) why ≡ refusal_of (end_before line why)
refusal_at_end line None = refl
refusal_at_end line (Some why) = refl

-- nothing is left of the input: it is done, or the last line is refused, where the lines may not end with it
pub ends_here : {A : Type 0} (r : AnswerRules A) (result : End) (input : List ℕ) (told now first old mid new : Option (List ℕ)) (line : ℕ) (ahead text kept_text : List ℕ)
    (a after : A) → Standing r input told first old line ahead text a → line ≤ lines_in r.language (lines_of input) + 1 → (nothing : (rest : List ℕ) → Unread told ahead rest
    → (rest ≡ []) × (now ≡ Some [])) → Sends old mid text kept_text → after ≡ a
    → ((s : r.State) → r.stands a s → Finishes r s result (end_before line (r.language.unended s)) mid new kept_text) → EndsSo r result input now first new after
ends_here r result input told now first old mid new line ahead text kept_text a after s le finds sends same e =
    let nothing = finds s.rest s.is_rest in
    let state = s.answered.state in
    let why = r.language.unended state in
    let c : Closing r (end_before line why) input now first mid kept_text a = record {
      front = s.header ∷ s.front;
      back = lines_of s.rest;
      lines = s.before.lines;
      answered = sends_more r (s.header ∷ s.front) first old mid text kept_text a s.answered sends;
      ends = told_standing r input told first old line ahead text a s
          ∙ ap (λ x. with_text s.answered.whole (told_from r.language line state (lines_of x))) nothing.0
          ∙ ap (λ x. with_text s.answered.whole (ends_in r.language state x)) (refusal_at_end line why);
      is_read = read_at_end line now why nothing.1;
      taken = taken_at_end (lines_in r.language (lines_of input)) input s.rest (s.header ∷ s.front) line now why s.before le nothing;
      taken_few = all_taken input s.rest (s.header ∷ s.front) line (257 * (lines_in r.language (lines_of input) + 1)) now s.before nothing (omega (arith, s.before.most, le));
    } in
    closes_in r result (end_before line why) input now first mid new kept_text a after c same (e state s.answered.stands)

-- ## The header

pub opens_unread : {A : Type 0} (r : AnswerRules A) (input ahead text : List ℕ) (told : Option (List ℕ)) (a : A) → Opens r ahead text a → told ≡ Some input
    → Unread told ahead input
opens_unread r input ahead text told a o is = record { left = input; is_left = is; whole = ap (λ t. t ++ input) (sym o.nothing_ahead) }

-- no line is answered yet
abbrev opens_answered : {A : Type 0} (r : AnswerRules A) (ahead text kept_text : List ℕ) (first new : Option (List ℕ)) (a : A) → Opens r ahead text a
    → Sends first new text kept_text → Answered r [] first new kept_text a
opens_answered r ahead text kept_text first new a o sends = record {
  whole = [];
  state = r.language.opening;
  leads = (refl, refl);
  stands = o.stands;
  written = subst (λ x. Sends first new x kept_text) o.no_text sends;
}

-- the first line is the header
pub header_read : {A : Type 0} (r : AnswerRules A) (input ahead text kept_text opened bytes left : List ℕ) (now first new : Option (List ℕ)) (a after : A) → Opens r ahead text a
    → TakesLine now bytes left input → Sends first new text kept_text → Replied r (r.language.header bytes) kept_text opened after
    → Standing r input now first new 2 left opened after
header_read r input ahead text kept_text opened bytes left now first new a after o t sends reply =
    let none : text ++ reply.added ≡ reply.added = ap (λ x. x ++ reply.added) o.no_text in
    let sent : Sends first new reply.added opened =
    subst (λ x. Sends first new x opened) none (subst (λ y. Sends first new (text ++ reply.added) y) (sym reply.text) (Sends-behind first new text kept_text reply.added sends)) in
    record {
      header = bytes;
      front = [];
      rest = t.rest;
      is_rest = t.is_rest;
      answered = record {
        whole = reply.added;
        state = reply.state;
        leads = λ more. ap (λ (opens : Reply _). told_behind r.language opens more) reply.is;
        stands = reply.stands;
        written = sent;
      };
      limit = sym (ap (lines_in r.language) t.lines ∙ ap (limit_behind r.language) reply.is);
      before = takes_one input [] now 1 bytes left input (takes_none input) t;
    }

-- a stop before the header was answered: of no line a text is due
pub header_stopped : {A : Type 0} (r : AnswerRules A) (input ahead text kept_text : List ℕ) (now first old new : Option (List ℕ)) (a after : A) (s : Stop) → Opens r ahead text a
    → LeavesAllBut 257 now input → Sends first old text kept_text → Writes s.sent old new kept_text → UnlessMemory s (after ≡ a)
    → EndsSo r (ends.Stopped s) input now first new after
header_stopped r input ahead text kept_text now first old new a after s o h sends part same =
    stops r input now first new s after
    (stops_behind r input first old new kept_text [] (lines_of input) _ s a after refl (opens_answered r ahead text kept_text first old a o sends) refl
    (λ other. subst (λ (x : _). r.stands x r.language.opening) (sym (same other)) o.stands) part)
    (leaves_more 257 (257 * (lines_in r.language (lines_of input) + 1)) now input (omega arith) h)

-- a stop while the first line was looked for
pub header_unfound : {A : Type 0} (r : AnswerRules A) (input ahead text : List ℕ) (now first new : Option (List ℕ)) (a : A) (s : Stop) → Opens r ahead text a
    → LeavesAllBut 257 now input → Writes s.sent first new text → EndsSo r (ends.Stopped s) input now first new a
header_unfound r input ahead text now first new a s o h part =
    header_stopped r input ahead text text now first first new a a s o h (record { sent = []; appended = Appends-nil first; whole = refl }) part (λ other. refl)

-- memory ran out for the text of a header
pub header_lacks : {A : Type 0} (r : AnswerRules A) (result : End) (input ahead text kept_text : List ℕ) (now first old new : Option (List ℕ)) (a after : A) → Opens r ahead text a
    → LeavesAllBut 257 now input → Sends first old text kept_text → LacksMemory result old new kept_text → EndsSo r result input now first new after
header_lacks r ends.Done input ahead text kept_text now first old new a after o h sends lacks = absurd lacks
header_lacks r (ends.Refused line why) input ahead text kept_text now first old new a after o h sends lacks = absurd lacks
header_lacks r (ends.Stopped s) input ahead text kept_text now first old new a after o h sends lacks =
    header_stopped r input ahead text kept_text now first old new a after s o h sends lacks.1 (λ other. absurd (other lacks.0))

-- the first line is refused, and no text is due
pub header_closes : {A : Type 0} (r : AnswerRules A) (result : End) (input ahead text kept_text : List ℕ) (now first old new : Option (List ℕ)) (a after : A) (why : Reason)
    → Opens r ahead text a → told_of r.language (lines_of input) ≡ unopened r.language why → LeavesAllBut 257 now input → Sends first old text kept_text
    → after ≡ a → Closes result (ends.Refused 1 why) old new kept_text → EndsSo r result input now first new after
header_closes r ends.Done input ahead text kept_text now first old new a after why o says h sends same e = let wrong = e.0 in absurd cc
header_closes r (ends.Refused line reason) input ahead text kept_text now first old new a after why o says h sends same e =
    let wanted : ends.Refused 1 why ≡ ends.Refused line reason = e.0 in
    let written : Appends first new text = Sends-writes (Ok tt) first old new text kept_text sends e.1 in
    record {
      says = record {
        refusal_is = ap (λ (t : Told _). t.refusal) says ∙ ap refusal_of wanted;
        written = subst (Appends first new) (o.no_text ∙ sym (ap (λ (t : Told _). t.text) says)) written;
        stands = subst (r.stands after) (sym (ap (λ (t : Told _). t.state) says)) (subst (λ (x : _). r.stands x r.language.opening) (sym same) o.stands);
      };
      taken = leaves_more 257 (bytes_before line input + 257) now input (omega arith) h;
      few = leaves_more 257 (257 * (lines_in r.language (lines_of input) + 1)) now input (omega arith) h;
    }
header_closes r (ends.Stopped s) input ahead text kept_text now first old new a after why o says h sends same e =
    header_stopped r input ahead text kept_text now first old new a after s o h sends e (λ other. same)

no_header : {S : Type 0} (l : Language S) (lines others : List (List ℕ)) (first : List ℕ) (why : Reason) → lines ≡ first ∷ others → l.header first ≡ Err why
    → told_of l lines ≡ unopened l why
no_header l lines others first why is other = ap (told_of l) is ∙ ap (λ (opens : Reply _). told_behind l opens others) other

-- the first line is no header
pub header_refused : {A : Type 0} (r : AnswerRules A) (input bytes left : List ℕ) (now : Option (List ℕ)) (why : Reason) → (t : TakesLine now bytes left input)
    → r.language.header bytes ≡ Err why → told_of r.language (lines_of input) ≡ unopened r.language why
header_refused r input bytes left now why t other = no_header r.language (lines_of input) (lines_of t.rest) bytes why t.lines other

pub header_long : {A : Type 0} (r : AnswerRules A) (input : List ℕ) → LanguageRules r.language → BeginsLong input
    → told_of r.language (lines_of input) ≡ unopened r.language reason.Header
header_long r input laws long =
    let u = long_is_refused r.language input laws long in
    no_header r.language (lines_of input) u.others u.first reason.Header u.lines u.no_header

-- the input is empty
pub header_missing : {A : Type 0} (r : AnswerRules A) (input : List ℕ) (now : Option (List ℕ)) → (input ≡ []) × (now ≡ Some [])
    → (told_of r.language (lines_of input) ≡ unopened r.language reason.Header) × LeavesAllBut 257 now input
header_missing r input now e =
    (ap (λ x. told_of r.language (lines_of x)) e.0, record { taken = []; left = []; is_left = e.1; whole = e.0; most = omega arith })
