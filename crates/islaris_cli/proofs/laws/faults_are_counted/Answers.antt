use Rattle.islaris_cli.proofs.TopLemmas.{five_rose, six_rose, unmoved}
use Rattle.islaris_cli.proofs.laws.faults_are_counted.Goals as goal

pub returns : goal.returns
returns c = record {
  read = λ n row r w cause still at. still (five_rose n row r w cause at);
  write = λ n row r w cause still at. still (six_rose n row r w cause at);
  never = λ n row r w cause a b d e. (
    λ at. unmoved r.faults r.faults' a b (five_rose n row r w cause at),
    λ at. unmoved w.faults w.faults' d e (six_rose n row r w cause at),
  );
}
