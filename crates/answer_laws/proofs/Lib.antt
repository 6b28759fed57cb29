mod Said
mod SaidBounds
mod SaidRounds
