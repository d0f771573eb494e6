-- Each step by its number.
use Rattle.std.proofs.Common.{◌∙◌, refl, arith}
use Rattle.lattice.specs.Naming.{point_of}
use Rattle.lattice.proofs.Steps.{stays_first, stays_second, stays_third, step_first_third, step_first_second, step_second_third, step_second_first, step_third_second, step_third_first}
use Rattle.lattice.proofs.face_points.FacePoint.step.Goals as goal

pub returns-in-FirstToThird : goal.returns-in-FirstToThird
returns-in-FirstToThird c = record { frequency = c.moved.ensures.frequency; point = rw c.in-FirstToThird.is (c.moved.ensures.point ∙ step_first_third c.args.self.frequency.n (point_of c.args.self) 0 refl (λ e. omega arith)) }

pub returns-in-FirstToSecond : goal.returns-in-FirstToSecond
returns-in-FirstToSecond c = record { frequency = c.moved-in-FirstToSecond.ensures.frequency; point = rw c.in-FirstToSecond.is (c.moved-in-FirstToSecond.ensures.point ∙ step_first_second c.args.self.frequency.n (point_of c.args.self) 1 refl (λ e. omega arith)) }

pub returns-in-SecondToThird : goal.returns-in-SecondToThird
returns-in-SecondToThird c = record { frequency = c.moved-in-SecondToThird.ensures.frequency; point = rw c.in-SecondToThird.is (c.moved-in-SecondToThird.ensures.point ∙ step_second_third c.args.self.frequency.n (point_of c.args.self) 2 refl (λ e. omega arith)) }

pub returns-in-SecondToFirst : goal.returns-in-SecondToFirst
returns-in-SecondToFirst c = record { frequency = c.moved-in-SecondToFirst.ensures.frequency; point = rw c.in-SecondToFirst.is (c.moved-in-SecondToFirst.ensures.point ∙ step_second_first c.args.self.frequency.n (point_of c.args.self) 3 refl (λ e. omega arith)) }

pub returns-in-ThirdToSecond : goal.returns-in-ThirdToSecond
returns-in-ThirdToSecond c = record { frequency = c.moved-in-ThirdToSecond.ensures.frequency; point = rw c.in-ThirdToSecond.is (c.moved-in-ThirdToSecond.ensures.point ∙ step_third_second c.args.self.frequency.n (point_of c.args.self) 4 refl (λ e. omega arith)) }

pub returns-in-ThirdToFirst : goal.returns-in-ThirdToFirst
returns-in-ThirdToFirst c = record { frequency = c.moved-in-ThirdToFirst.ensures.frequency; point = rw c.in-ThirdToFirst.is (c.moved-in-ThirdToFirst.ensures.point ∙ step_third_first c.args.self.frequency.n (point_of c.args.self) 5 (omega arith) (λ e. omega arith) (λ e. omega arith)) }

pub returns-in_default : goal.returns-in_default
returns-in_default c = record { frequency = refl; point = rw c.in-FirstToThird.is (stays_first c.args.self.frequency.n (point_of c.args.self) 0 (omega arith) (omega arith)) }

pub returns-in_default-2 : goal.returns-in_default-2
returns-in_default-2 c = record { frequency = refl; point = rw c.in-FirstToSecond.is (stays_first c.args.self.frequency.n (point_of c.args.self) 1 (omega arith) (omega arith)) }

pub returns-in_default-3 : goal.returns-in_default-3
returns-in_default-3 c = record { frequency = refl; point = rw c.in-SecondToThird.is (stays_second c.args.self.frequency.n (point_of c.args.self) 2 (omega arith) (omega arith) (omega arith)) }

pub returns-in_default-4 : goal.returns-in_default-4
returns-in_default-4 c = record { frequency = refl; point = rw c.in-SecondToFirst.is (stays_second c.args.self.frequency.n (point_of c.args.self) 3 (omega arith) (omega arith) (omega arith)) }

pub returns-in_default-5 : goal.returns-in_default-5
returns-in_default-5 c = record { frequency = refl; point = rw c.in-ThirdToSecond.is (stays_third c.args.self.frequency.n (point_of c.args.self) 4 (omega arith) (omega (arith, c.args.self.on_lattice.weights_within))) }

pub returns-in_default-6 : goal.returns-in_default-6
returns-in_default-6 c = record { frequency = refl; point = rw c.in-ThirdToFirst.is (stays_third c.args.self.frequency.n (point_of c.args.self) 5 (omega arith) (omega (arith, c.args.self.on_lattice.weights_within))) }
