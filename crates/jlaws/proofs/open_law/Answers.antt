use Rattle.jlaws.proofs.Opens.{same_opens}
use Rattle.jlaws.proofs.open_law.Goals as goal

pub returns : goal.returns
returns c workers h pyx e f p q l i j a b = same_opens workers h l pyx e f p q i j a b
