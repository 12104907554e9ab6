-- The items of the folder where the path leads.
use Rattle.just_host.proofs.memory.MemHostPathHost.list.Goals as goal

pub returns-in-Ok-items-clause-told : goal.returns-in-Ok-items-clause-told
returns-in-Ok-items-clause-told c = (c.in-Ok.folder.path, c.in-Ok.ensures, c.in-Ok-items.ensures.items)
