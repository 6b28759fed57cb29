mod FormsOfEnds
mod Keeping
mod Told
