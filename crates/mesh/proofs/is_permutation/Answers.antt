-- `mesh::is_permutation` meets its contract: the marked ids are those met. Assumes nothing.
use Rattle.std.proofs.Common.{sym, arith, true, false}
use lib.ListN.{length-set, length-replicate, get_or-replicate}
use Rattle.sequences.proofs.Range.{updated_by_set}
use Rattle.sequences.proofs.Permutation.{marks_none, marks_step, marks_all, refused_length, refused_range, refused_repeat}
use Rattle.mesh.proofs.is_permutation.Goals.{then-id-count-via-then-id-count, then-id-count-via-else-id-count+then-marked-id}
use Rattle.mesh.proofs.is_permutation.Goals as goal

pub returns-then-permutation-count : goal.returns-then-permutation-count
returns-then-permutation-count c = sym (refused_length c.args.count c.args.permutation.now c.if-permutation-count.true)

pub loop-id-init : goal.loop-id-init
loop-id-init c = (length-replicate 65536 false, marks_none (λ x lt. get_or-replicate 65536 x false false (omega arith)))

pub returns-then-id-count : goal.returns-then-id-count
returns-then-id-count c =
    let q = c.args.permutation.now in
    elim c.then-id-count.branch [
      | then-id-count-via-then-id-count w ↦ sym (refused_range c.args.count q c.loop-id.id-index (omega arith) w.if-id-count.true)
      | then-id-count-via-else-id-count+then-marked-id w ↦ sym (refused_repeat {v = c.loop-id.id-index} (omega arith) c.loop-id.invariant.1 w.if-id-count.false w.if-marked-id.true)
    ]

pub loop-id-preserved : goal.loop-id-preserved
loop-id-preserved c = (simp length-set c.loop-id.invariant.0, marks_step c.loop-id.invariant.1 (omega arith) c.if-marked-id.false (updated_by_set c.args.count c.loop-id.marked _ true false (omega arith)))

pub returns : goal.returns
returns c = sym (marks_all {v = c.loop-id.id-index} c.if-permutation-count.false (omega arith) c.loop-id.invariant.1)
