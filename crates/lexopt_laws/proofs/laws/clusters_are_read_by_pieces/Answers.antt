use Rattle.std.proofs.lemmas.List.{length-map}
use Rattle.lexopt_spec.specs.Pieces.{pieces, shown}
use Rattle.lexopt_line_spec.proofs.Clusters.{cluster_read}
use Rattle.lexopt_laws.proofs.laws.clusters_are_read_by_pieces.Goals as goal

pub returns-clause-run : goal.returns-clause-run
returns-clause-run c = λ u v b bs words replies none open_line is other free run. cluster_read u v b bs words replies none open_line is other free run

pub returns-clause-as_many : goal.returns-clause-as_many
returns-clause-as_many c = λ bytes. length-map (pieces bytes) (λ p. shown p.char)
