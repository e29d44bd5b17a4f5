use Rattle.grd_io.proofs.Changing.{changed_last}
use Rattle.grd_io.proofs.files.add_file.Goals as goal

pub returns-clause-made : goal.returns-clause-made
returns-clause-made c = changed_last c.args.files.now.items c.push.new.self.items (c.in_ok-name.name, c.new.result) c.args.name.now c.in_ok-push.ensures.items c.in_ok-name.ensures.ok c.new.ensures.items c.requires
