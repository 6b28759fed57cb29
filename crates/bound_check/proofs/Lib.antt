mod OneAnswer
mod Parts
