use Rattle.binary64.proofs.ConversionCases.{case_holds, case_only, held_is_an_end, kept_is_the_value, cut_toward_zero}
use Rattle.binary64.proofs.laws.cases_of_a_conversion.Goals as goal

pub returns : goal.returns
returns c = record { told = case_holds; no_other = case_only; held = held_is_an_end; kept = kept_is_the_value; cut = cut_toward_zero }
