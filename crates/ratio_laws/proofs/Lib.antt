mod OneRatio
