use Rattle.dubbo_play.proofs.Laws.{calls_once, read_or_refused, refused_once}
use Rattle.dubbo_play.proofs.first_script.laws.first_script_laws.Goals as goal

pub returns : goal.returns
returns c = record { once = calls_once; apart = read_or_refused; first = refused_once }
