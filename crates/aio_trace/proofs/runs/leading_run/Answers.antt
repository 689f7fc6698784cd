use Rattle.std.proofs.Common.{◌≡◌, ◌∙◌, ap, arith, drop, take}
use Rattle.std.specs.List.{position_or_len}
use Rattle.std.proofs.lemmas.List.{take_rest}
use Rattle.aio_trace.specs.Words.{is_other}
use Rattle.aio_trace.proofs.LeadingRuns.{run_on}
use Rattle.aio_trace.proofs.runs.leading_run.Goals as goal

pub returns-then-same-lt-BLOCK_BYTES-clause-same : goal.returns-then-same-lt-BLOCK_BYTES-clause-same
returns-then-same-lt-BLOCK_BYTES-clause-same c =
    let text = c.args.text.now in
    let at = c.loop-at.at in
    let is : c.run_in_block-same.result ≡ position_or_len (is_other c.args.byte) (take 32 (drop at text)) =
    c.run_in_block-same.ensures ∙ ap (λ rest. position_or_len (is_other c.args.byte) (take 32 rest)) (take_rest text at) in
    run_on text c.args.byte at c.run_in_block-same.result c.loop-at.invariant.run (omega (arith, is)) (omega (arith, c.if-same-lt-BLOCK_BYTES.true))

pub loop-at-preserved : goal.loop-at-preserved
loop-at-preserved c =
    let text = c.args.text.now in
    let at = c.loop-at.at in
    let is : c.run_in_block-same.result ≡ position_or_len (is_other c.args.byte) (take 32 (drop at text)) =
    c.run_in_block-same.ensures ∙ ap (λ rest. position_or_len (is_other c.args.byte) (take 32 rest)) (take_rest text at) in
    record {
      within = omega (arith, c.loop-at-test.true);
      run = run_on text c.args.byte at 32 c.loop-at.invariant.run (omega (arith, is, c.if-same-lt-BLOCK_BYTES.false)) (omega arith);
    }
