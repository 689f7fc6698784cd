use Rattle.std.proofs.Common.{◌≡◌, ◌<◌, ◌^◌, List, ℕ, sym, ap, ◌∙◌, subst}
use Rattle.aio_future.specs.Tries.{FaultsWithin, fault_counts}
use Rattle.aio_future.specs.declared.attempts.Write.{Write}
use Rattle.aio_pairs.specs.Calls.{Writes}
use Rattle.aio_base.specs.Devices.{raised}
use Rattle.aio_places.specs.SourceEnds.{call_from, is_sure_end, last_told}
use Rattle.aio_places.proofs.Entering.{enters_to_write, has_written, writes_faults, writes_kind, writes_most}
use Rattle.aio_places.proofs.Told.{end_writes, write_kind_alike, moves_alike, end_fails, leaves_alike, stays_sure, still_none, sure_by, unsure}
use Rattle.aio_places.proofs.ends.SourceEndEndInside.write.Goals as goal

abbrev bytes_in : Write → List ℕ
bytes_in write = write.piece.now

pub returns-clause-step : goal.returns-clause-step
returns-clause-step g c = record {
  source = c.write_source-tried.ensures.tries.found.state;
  conn = c.write_source-tried.ensures.tries.found.io;
  made = Writes c.args.piece.now c.args.w c.write_source-tried.result;
  source_after = c.write_source-tried.ensures.tries.put.state;
  conn_after = c.write_source-tried.ensures.tries.put.io;
  entered = c.write_source-tried.ensures.tries.rest_is ∙ ap (λ end. end.rest) c.self.view_is;
  key = c.write_source-tried.ensures.tries.key_is ∙ ap (λ end. end.key) c.self.view_is;
  tries = enters_to_write g.C.Conn.conn_step g.C.Arm.arm_step g.C.Arm.interests g.C.Arm.rest g.C.Faults.fault_count g.C.Faults.is_sure g.C.Tells.telling
      g.met.C.Conn.rest_is_laid_out _ bytes_in c.args.w _ c.write_source-tried.ensures.tries.found c.write_source-tried.ensures.tries.ticker c.write_source-tried.result _ c.write_source-tried.ensures.tries.put c.write_source-tried.ensures.tries.visited.0 (λ a io given left io_left at. at) c.write_source-tried.ensures.tries.visited.1;
  told = subst (λ n. Writes c.args.piece.now c.args.w c.tell.result ≡ call_from n (Writes c.args.piece.now c.args.w c.write_source-tried.result)) (ap (λ end. end.told) c.self.view_is) (ap (λ tried. Writes c.args.piece.now c.args.w tried) c.tell.ensures.told);
  left = ap (λ token. record { words = token.words; key = token.key; lock = token.lock; rest = token.rest; visits = token.visits; taken = token.taken; told = c.tell.new.told }) c.write_source-tried.ensures.tries.token_is
      ∙ ap (λ end. record { words = end.words; key = end.key; lock = end.lock; visits = raised end.visits; taken = end.taken; rest = g.C.Arm.rest c.write_source-tried.ensures.tries.put.io; told = c.tell.new.told }) c.self.view_is
      ∙ ap (λ told. record { words = c.args.self.now.words; key = c.args.self.now.key; lock = c.args.self.now.lock; visits = raised c.args.self.now.visits; taken = c.args.self.now.taken; rest = g.C.Arm.rest c.write_source-tried.ensures.tries.put.io; told = told })
      (c.tell.ensures.count ∙ ap (λ end. last_told end.told c.tell.result.answer) c.self.view_is);
}

pub returns-clause-host : goal.returns-clause-host
returns-clause-host g c = leaves_alike _ _ _ c.self.inside.told c.write_source-tried.result c.tell.result _ _ c.tell.ensures.told c.write_source-tried.ensures.host

pub returns-clause-told : goal.returns-clause-told
returns-clause-told g c =
    end_writes g.C.Arm.rest g.C.Faults.is_sure g.C.Tells.telling g.met.C.Conn.rest_is_laid_out g.C.Tells.left_is_bounded
    c.self.inside.told c.write_source-tried.ensures.tries.found.io c.write_source-tried.ensures.tries.put.io c.args.self.now.rest c.write_source-tried.new.token.rest c.write_source-tried.result c.tell.result c.args.piece.now
    (c.write_source-tried.ensures.tries.rest_is ∙ ap (λ end. end.rest) c.self.view_is) (sym (ap (λ token. token.rest) c.write_source-tried.ensures.tries.token_is))
    c.tell.ensures.told
    (has_written g.C.Conn.conn_step g.C.Arm.arm_step g.C.Arm.interests g.C.Arm.rest g.C.Faults.fault_count g.C.Faults.is_sure g.C.Tells.telling
    g.met.C.Conn.rest_is_laid_out _ bytes_in c.args.w _ c.write_source-tried.ensures.tries.found c.write_source-tried.ensures.tries.ticker c.write_source-tried.result _ c.write_source-tried.ensures.tries.put c.write_source-tried.ensures.tries.visited.0 (λ a io given left io_left at. at) c.write_source-tried.ensures.tries.visited.1)

pub returns-clause-most : goal.returns-clause-most
returns-clause-most g c = moves_alike c.self.inside.told c.write_source-tried.result c.tell.result _ c.tell.ensures.told
    (writes_most g.C.Conn.conn_step g.C.Arm.arm_step g.C.Arm.interests g.C.Arm.rest g.C.Faults.fault_count g.C.Faults.is_sure g.C.Tells.telling
    g.met.C.Conn.rest_is_laid_out _ bytes_in c.args.w _ c.write_source-tried.ensures.tries.found c.write_source-tried.ensures.tries.ticker c.write_source-tried.result _ c.write_source-tried.ensures.tries.put c.write_source-tried.ensures.tries.visited.0 (λ a io given left io_left at. at) c.write_source-tried.ensures.tries.visited.1)

pub returns-clause-kind : goal.returns-clause-kind
returns-clause-kind g c = write_kind_alike c.self.inside.told c.write_source-tried.result c.tell.result c.tell.ensures.told
    (writes_kind g.C.Conn.conn_step g.C.Arm.arm_step g.C.Arm.interests g.C.Arm.rest g.C.Faults.fault_count g.C.Faults.is_sure g.C.Tells.telling
    g.met.C.Conn.rest_is_laid_out _ bytes_in c.args.w _ c.write_source-tried.ensures.tries.found c.write_source-tried.ensures.tries.ticker c.write_source-tried.result _ c.write_source-tried.ensures.tries.put c.write_source-tried.ensures.tries.visited.0 (λ a io given left io_left at. at) c.write_source-tried.ensures.tries.visited.1)

pub returns-clause-faults : goal.returns-clause-faults
returns-clause-faults g c =
    let few : c.self.inside.told < 2 ^ 64 = c.self.ranges.1.1.0.1 in
    subst (λ told. FaultsWithin told c.tell.new.told (is_sure_end c.args.self.now.rest told) (is_sure_end c.write_source-tried.new.token.rest c.tell.new.told)
    (fault_counts c.tell.result.answer)) (ap (λ end. end.told) c.self.view_is)
    (end_fails g.C.Arm.rest g.C.Faults.is_sure g.C.Tells.telling g.met.C.Conn.rest_is_laid_out g.C.Tells.left_is_bounded
    c.self.inside.told _ _ c.tell.new.told c.write_source-tried.ensures.tries.found.io c.write_source-tried.ensures.tries.put.io c.args.self.now.rest c.write_source-tried.new.token.rest
    c.write_source-tried.result c.tell.result few
    (c.write_source-tried.ensures.tries.rest_is ∙ ap (λ end. end.rest) c.self.view_is) (sym (ap (λ token. token.rest) c.write_source-tried.ensures.tries.token_is))
    c.tell.ensures.told c.tell.ensures.count
    (writes_faults g.C.Conn.conn_step g.C.Arm.arm_step g.C.Arm.interests g.C.Arm.rest g.C.Faults.fault_count g.C.Faults.is_sure g.C.Tells.telling
    g.met.C.Conn.rest_is_laid_out _ bytes_in c.args.w _ c.write_source-tried.ensures.tries.found c.write_source-tried.ensures.tries.ticker c.write_source-tried.result _ c.write_source-tried.ensures.tries.put c.write_source-tried.ensures.tries.visited.0 (λ a io given left io_left at. at) c.write_source-tried.ensures.tries.visited.1))

pub invariant_of-self : goal.invariant_of-self
invariant_of-self g c =
    let left : g.C.Arm.rest c.write_source-tried.ensures.tries.put.io ≡ c.write_source-tried.new.token.rest = sym (ap (λ token. token.rest) c.write_source-tried.ensures.tries.token_is) in
    let faults = writes_faults g.C.Conn.conn_step g.C.Arm.arm_step g.C.Arm.interests g.C.Arm.rest g.C.Faults.fault_count g.C.Faults.is_sure g.C.Tells.telling
    g.met.C.Conn.rest_is_laid_out _ bytes_in c.args.w _ c.write_source-tried.ensures.tries.found c.write_source-tried.ensures.tries.ticker c.write_source-tried.result _ c.write_source-tried.ensures.tries.put c.write_source-tried.ensures.tries.visited.0 (λ a io given left io_left at. at) c.write_source-tried.ensures.tries.visited.1 in
    let same = stays_sure g.C.Arm.rest g.C.Faults.is_sure g.C.Tells.telling g.met.C.Conn.rest_is_laid_out g.C.Tells.left_is_bounded
    c.write_source-tried.ensures.tries.found.io c.write_source-tried.ensures.tries.put.io c.self.inside.token.rest c.write_source-tried.new.token.rest c.write_source-tried.ensures.tries.rest_is left faults.sure in (
      ap (λ token. token.inside) c.write_source-tried.ensures.tries.token_is ∙ c.self.invariant.0,
      (c.write_source-tried.ensures.tries.put.io, left),
      λ sure. still_none c.self.inside.told c.tell.new.told c.write_source-tried.result c.tell.result c.tell.ensures.told c.tell.ensures.count
          (λ failed. unsure _ _ _ _ _ c.write_source-tried.new.token.rest faults
          (sure_by g.C.Arm.rest g.C.Faults.is_sure g.C.Tells.telling g.met.C.Conn.rest_is_laid_out g.C.Tells.left_is_bounded c.write_source-tried.ensures.tries.put.io c.write_source-tried.new.token.rest left)
          failed sure)
          (c.self.invariant.2 (sym same ∙ sure)),
      ap (λ token. token.words) c.write_source-tried.ensures.tries.token_is ∙ c.self.invariant.3,
    )
