-- `octets::all_zero` meets its contract.
use Rattle.std.proofs.Common.{rules, tests, sym, ◌∙◌, eqb}
use Rattle.std.proofs.lemmas.Iterator.{YieldsList-from_slice}
use Rattle.std.proofs.lemmas.Iterator.Search.{all_from_yields_List}
use Rattle.octets.proofs.Lists.{all_is_list_all}
use Rattle.octets.proofs.all_zero.Goals as goal

pub returns : goal.returns
returns c = all_from_yields_List (eqb 0) _ _ _ c.all.ensures.ran (YieldsList-from_slice c.args.s.now cc) (λ x b q k. search (rules, tests)) ∙ sym (all_is_list_all (eqb 0) c.args.s.now)
