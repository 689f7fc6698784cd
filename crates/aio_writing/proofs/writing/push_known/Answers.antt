-- The digits replace line feeds behind the word, and one line feed is left.
use Rattle.std.proofs.Common.{rules, ◌≡◌, ℕ, zero, suc, ◌+◌, ◌-◌, ◌<◌, ◌≤◌, List, [], ◌∷◌, ◌++◌, length, take, drop, refl, sym, ap, ◌∙◌, arith, append_assoc, length-append, replicate, vec_len}
use Rattle.std.specs.Prelude.{decimal}
use Rattle.std.proofs.lemmas.Fmt.{length-decimal-le}
use Rattle.std.proofs.Math.Seq.{take-append_seam}
use Rattle.std.proofs.Math.Seq.{take-append-add}
use Rattle.std.proofs.Math.Seq.{drop-append-add}
use Rattle.std.proofs.lemmas.List.{drop-replicate}
use Rattle.std.proofs.lemmas.List.{take-append-drop}
use Rattle.aio_writing.proofs.writing.push_known.Goals as goal

abbrev feeds : List ℕ
feeds = replicate 21 10

one-feed : (n : ℕ) → 0 < n → take {A = ℕ} 1 (replicate n 10) ≡ 10 ∷ []
one-feed zero some = absurd (omega (arith, some))
one-feed (suc n) some = refl

one-left : (k : ℕ) → k ≤ 20 → take 1 (drop k feeds) ≡ 10 ∷ []
one-left k le = rw (drop-replicate {X = ℕ} k 21 10) (one-feed (21 - k) (omega (arith, le)))

in-place : (front digits ms : List ℕ) (r e : ℕ) → r ≡ length front → e ≡ length front + length digits → length digits ≤ 20 → take r ms ≡ take r (front ++ feeds) → drop r ms ≡ digits ++ drop e (front ++ feeds)
    → take (e + 1) ms ≡ front ++ (digits ++ 10 ∷ [])
in-place front digits ms r e r_is e_is few before behind =
    let first : take r ms ≡ front = before ∙ ap (λ (n : ℕ). take n (front ++ feeds)) r_is ∙ take-append_seam front feeds in
    let rest : drop r ms ≡ digits ++ drop (length digits) feeds = behind ∙ ap (λ (n : ℕ). digits ++ drop n (front ++ feeds)) e_is ∙ ap (λ (xs : List ℕ). digits ++ xs) (drop-append-add front feeds (length digits)) in
    let whole : ms ≡ front ++ (digits ++ drop (length digits) feeds) = sym (take-append-drop r ms) ∙ (λ j. first j ++ rest j) in
    let size : e + 1 ≡ length front + (length digits + 1) = omega (arith, e_is) in
    (λ j. take (size j) (whole j)) ∙ take-append-add front (digits ++ drop (length digits) feeds) (length digits + 1)
    ∙ ap (λ (xs : List ℕ). front ++ xs) (take-append-add digits (drop (length digits) feeds) 1 ∙ ap (λ (xs : List ℕ). digits ++ xs) (one-left (length digits) few))

-- what was lent as a slice comes back whole
written-back : (n : ℕ) (xs ys zs : List ℕ) → length xs ≡ length zs → zs ≡ ys → length zs ≡ n → take n (xs ++ drop (length xs) ys) ≡ xs
written-back n xs ys zs same is len =
    let m : n ≡ length xs = sym len ∙ sym same in
    rw m (take-append_seam xs (drop (length xs) ys))

pub write_digits-count-requires : goal.write_digits-count-requires
write_digits-count-requires g c =
    let few : length (decimal c.args.number) ≤ 20 = search (rules, length-decimal-le 20) in
    (few, omega arith)

pub returns : goal.returns
returns g c =
    let old = c.args.out.now.items in
    let word = c.args.word.now in
    let digits = decimal c.args.number in
    let ms = c.write_digits.new.buf in
    let few : length (decimal c.args.number) ≤ 20 = search (rules, length-decimal-le 20) in
    let own : length c.args.word.now ≡ g.row.N = search rules in
    let items : c.extend_from_slice-2.new.self.items ≡ (c.args.out.now.items ++ c.args.word.now) ++ feeds = c.in_ok-extend_from_slice-2.ensures.items ∙ ap (λ (xs : List ℕ). xs ++ feeds) c.in_ok-extend_from_slice.ensures.items in
    let slice : c.as_mut_slice.result.now ≡ (c.args.out.now.items ++ c.args.word.now) ++ feeds = c.as_mut_slice.ensures.value ∙ items in
    let count : 20 - c.write_digits-count.result ≡ length (decimal c.args.number) = omega (arith, few, c.write_digits-count.ensures.start) in
    let size : length (c.args.out.now.items ++ c.args.word.now) ≡ c.len-len.result + g.row.N =
    let whole : length c.args.out.now.items ≡ vec_len c.args.out.now = search rules in
    omega (arith, c.len-len.ensures, own, whole, length-append c.args.out.now.items c.args.word.now) in
    let placed : take (c.len-len.result + g.row.N + (20 - c.write_digits-count.result) + 1) c.write_digits.new.buf ≡ (c.args.out.now.items ++ c.args.word.now) ++ (decimal c.args.number ++ 10 ∷ []) =
    in-place (c.args.out.now.items ++ c.args.word.now) (decimal c.args.number) ms c.write_digits.result (c.len-len.result + g.row.N + (20 - c.write_digits-count.result))
    (omega (arith, size, count, c.write_digits.ensures.start)) (omega (arith, size, count)) few
    (c.write_digits.ensures.before ∙ ap (λ (xs : List ℕ). take c.write_digits.result xs) slice)
    (c.write_digits.ensures.written ∙ ap (λ (xs : List ℕ). decimal c.args.number ++ drop (c.len-len.result + g.row.N + (20 - c.write_digits-count.result)) xs) slice) in
    record {
      pushes = record {
        ok =
            c.truncate.ensures.items
            ∙ ap (λ (xs : List ℕ). take (c.len-len.result + g.row.N + (20 - c.write_digits-count.result) + 1) xs)
            (written-back _ ms _ c.as_mut_slice.result.now c.write_digits.auto.buf c.as_mut_slice.ensures.value c.as_mut_slice.ensures.len)
            ∙ placed ∙ append_assoc old word (digits ++ 10 ∷ []) ∙ ap (λ (xs : List ℕ). c.args.out.now.items ++ xs) (sym (append_assoc word digits (10 ∷ [])));
        kept = tt;
        full = tt;
        grown = search rules;
      };
    }
