-- What is counted in a hardened table is what the sums over its rows come to. Assumes nothing.
use mathlib.Core.Path.{◌∙◌, sym, ap}
use Rattle.rules.specs.Row.{table_of}
use Rattle.rules.specs.Figures.{SumsAgree}
use Rattle.rules.proofs.Accepted.{proper}
use Rattle.rules.proofs.Figures.Sums.{sums-all}
use Rattle.rules.proofs.Figures.Lines.{line-sum}
use Rattle.rules.proofs.Figures.Regions.{most-regions}
use Rattle.rules.proofs.Figures.Values.{highest-value}

pub sums-agree : SumsAgree
sums-agree rows v =
    let t = table_of rows in
    let ok = proper rows v in
    record {
      lines_agree = line-sum t ok ∙ ap (λ s. s.lines) (sym (sums-all t));
      regions_agree = most-regions t ok ∙ ap (λ s. s.most) (sym (sums-all t));
      value_agrees = highest-value t ok ∙ ap (λ s. s.value) (sym (sums-all t));
    }
