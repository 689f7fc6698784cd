use Rattle.std.proofs.Common.{map, string_bytes, take, refl, ◌∙◌, rules}
use Rattle.aio_base.specs.Trace.{trace_of}
use Rattle.aio_laws.proofs.runs.BetweenSteps.{stands_after}
use Rattle.aio_commands.proofs.Naming.{one_command}
use Rattle.aio_run.proofs.program.run.Goals as goal
use Rattle.aio_run.proofs.program.run.Goals.{in-Some-Replay, in-Some-Gen, in-Some-Sum, in-Some-Relay, in-Some-Stress, in-None}

pub returns-clause-named : goal.returns-clause-named
returns-clause-named g c = λ known.
    elim c.match-command_of.branch [
      | in-Some-Replay w ↦ (w.in-Some-Replay.field-0, w.in-Some-Replay.ensures)
      | in-Some-Gen w ↦ (w.in-Some-Gen.field-0, w.in-Some-Gen.ensures)
      | in-Some-Sum w ↦ (w.in-Some-Sum.field-0, w.in-Some-Sum.ensures)
      | in-Some-Relay w ↦ (w.in-Some-Relay.field-0, w.in-Some-Relay.ensures)
      | in-Some-Stress w ↦ (w.in-Some-Stress.field-0, w.in-Some-Stress.ensures)
      | in-None w ↦ absurd (known w.why-is)
    ]

pub returns-clause-ran : goal.returns-clause-ran
returns-clause-ran g c = λ command names.
    elim c.match-command_of.branch [
      | in-Some-Replay w ↦
          let same = one_command (map string_bytes c.args.words.now) command w.in-Some-Replay.field-0 names w.in-Some-Replay.ensures ∙ w.in-Some-Replay.field-0-is in
          rw (same, w.why-is, w.input-is, w.out-is, w.devices-is) (
            (λ bytes told. (
              record {
                writes = w.run_replay-why.ensures.replays bytes told;
                taken = w.run_replay-why.ensures.taken bytes told;
                most = w.run_replay-why.ensures.most bytes told;
              },
              λ n. stands_after (take n (trace_of bytes).steps),
            )),
            refl,
            w.run_replay-why.ensures.no_device,
          )
      | in-Some-Gen w ↦
          let same = one_command (map string_bytes c.args.words.now) command w.in-Some-Gen.field-0 names w.in-Some-Gen.ensures ∙ w.in-Some-Gen.field-0-is in
          rw (same, w.why-is, w.input-is, w.out-is, w.devices-is) (w.run_gen-why.ensures.writes, refl, refl)
      | in-Some-Sum w ↦
          let same = one_command (map string_bytes c.args.words.now) command w.in-Some-Sum.field-0 names w.in-Some-Sum.ensures ∙ w.in-Some-Sum.field-0-is in
          rw (same, w.why-is, w.input-is, w.out-is, w.devices-is) (w.run_sum-why.ensures.writes, refl, refl)
      | in-Some-Relay w ↦
          let same = one_command (map string_bytes c.args.words.now) command w.in-Some-Relay.field-0 names w.in-Some-Relay.ensures ∙ w.in-Some-Relay.field-0-is in
          rw (same, w.why-is, w.input-is, w.out-is, w.devices-is)
          (record { relays = w.run_relay-why.ensures.relays; order = w.run_relay-why.ensures.order }, refl)
      | in-Some-Stress w ↦
          let same = one_command (map string_bytes c.args.words.now) command w.in-Some-Stress.field-0 names w.in-Some-Stress.ensures ∙ w.in-Some-Stress.field-0-is in
          rw (same, w.why-is, w.input-is, w.out-is, w.devices-is) (w.run_stress-why.ensures.writes, refl, w.run_stress-why.ensures.spawner)
      | in-None w ↦ absurd (w.in-None.ensures command names)
    ]

pub returns-clause-usage : goal.returns-clause-usage
returns-clause-usage g c = search rules
