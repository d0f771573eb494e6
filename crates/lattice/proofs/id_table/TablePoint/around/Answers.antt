-- The six ids by their steps.
use Rattle.lattice.specs.Inside.{step_ids}
use Rattle.lattice.proofs.id_table.TablePoint.around.Goals as goal

pub returns : goal.returns
unfolding step_ids
returns c =
    rw (c.id-6.ensures, c.id-5.ensures, c.id-4.ensures, c.id-3.ensures, c.id-2.ensures, c.id.ensures, c.step.ensures.point, c.step-2.ensures.point, c.step-3.ensures.point, c.step-4.ensures.point, c.step-5.ensures.point, c.step-6.ensures.point, c.step.ensures.frequency, c.step-2.ensures.frequency, c.step-3.ensures.frequency, c.step-4.ensures.frequency, c.step-5.ensures.frequency, c.step-6.ensures.frequency)
